-- One job more, with places of its own.
use Rattle.std.proofs.Common.{◌≡◌, [], refl, arith}
use Rattle.std.specs.List.{All}
use Rattle.std.proofs.lemmas.List.Elements.{All-push, All-same}
use Rattle.call_queues.specs.Passing.{IsWorkersAt, OwnersKeep}
use Rattle.call_queues.specs.declared.worker_queue.WorkerQueue.{WorkerQueue}
use Rattle.workers.specs.PlannedCall.{PlannedCall}
use Rattle.workers.specs.declared.worker.Job.{Job}
use Rattle.workers.proofs.GivenValues.{given_ok}
use Rattle.workers.proofs.epoch.jobs.Goals as goal

pub loop-worker-preserved : goal.loop-worker-preserved
loop-worker-preserved g c =
    let queues = c.args.queues.now in
    let ready = λ (job : Job g.row.G.Denot g.row.B.Denot). (job.queues.now ≡ queues) × All (IsWorkersAt queues) job.worker_queues.items in
    let ready_queues : All (IsWorkersAt queues) c.in_ok-worker_queues.worker_queues.items =
    given_ok (λ made. All (IsWorkersAt queues) made.items) c.worker_queues.result c.in_ok-worker_queues.worker_queues c.in_ok-worker_queues.ensures
    c.worker_queues.ensures.worker_queues in
    let none = λ (job : Job g.row.G.Denot g.row.B.Denot). All (λ (s : WorkerQueue PlannedCall). s.done.items ≡ []) job.worker_queues.items in
    let same = λ (job : Job g.row.G.Denot g.row.B.Denot). job.workplace.now ≡ c.args.workplace.now in record {
      owners = c.worker_queues.ensures.owners;
      ready = All-same ready c.push.new.self.items _ c.in_ok-push.ensures.items
          (All-push ready c.loop-worker.jobs.items _ c.loop-worker.invariant.ready (refl, ready_queues));
      len = omega (arith, c.in_ok-push.ensures.len, c.loop-worker.invariant.len);
      workplace = All-same same c.push.new.self.items _ c.in_ok-push.ensures.items (All-push same c.loop-worker.jobs.items _ c.loop-worker.invariant.workplace refl);
      none = All-same none c.push.new.self.items _ c.in_ok-push.ensures.items (All-push none c.loop-worker.jobs.items _ c.loop-worker.invariant.none
          (given_ok (λ made. All (λ (s : WorkerQueue PlannedCall). s.done.items ≡ []) made.items) c.worker_queues.result c.in_ok-worker_queues.worker_queues
          c.in_ok-worker_queues.ensures c.worker_queues.ensures.none));
      back = λ test before.
          given_ok (λ made. OwnersKeep c.loop-worker.owners.items c.worker_queues.new.owners.items) c.worker_queues.result c.in_ok-worker_queues.worker_queues
          c.in_ok-worker_queues.ensures c.worker_queues.ensures.back test (c.loop-worker.invariant.back test before);
    }

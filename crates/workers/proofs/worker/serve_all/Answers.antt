-- The place that was served at is the worker's as before, at the queue of the same shard.
use Rattle.std.proofs.Common.{◌≡◌, ℕ, get_or, length, refl, sym, subst, arith}
use Rattle.std.specs.Prelude.{Some, slice_get}
use Rattle.std.proofs.lemmas.List.Elements.{All-get_or, All-set}
use Rattle.std.proofs.lemmas.Option.{slice_get_read}
use Rattle.call_queues.specs.Passing.{AllPass, IsWorkersAt}
use Rattle.workers.specs.PlanSteps.{item_is_over}
use Rattle.workers.proofs.worker.serve_all.Goals as goal

pub returns-in_err-serve-clause-workers : goal.returns-in_err-serve-clause-workers
returns-in_err-serve-clause-workers g c =
    let queues = c.args.queues.now in
    let found = c.in-Some.ensures.lookup in
    let queue = c.in-Some.queue.now in
    let worker_queue = get_or c.loop-worker_queue.worker_queues c.loop-worker_queue.worker_queue-index c.worker_queue-item.result in
    All-set (IsWorkersAt queues) c.loop-worker_queue.worker_queues c.loop-worker_queue.worker_queue-index c.serve.new.worker_queue
    (record {
      queue = queue;
      at = subst (λ (shard : ℕ). slice_get queues shard ≡ Some queue) (sym c.serve.ensures.shard)
          (slice_get_read queues (length queues) worker_queue.shard queue refl found.3.0 (found.3.1 queue));
      workers = c.serve.ensures.workers;
    })
    c.loop-worker_queue.invariant.workers

pub loop-worker_queue-preserved : goal.loop-worker_queue-preserved
loop-worker_queue-preserved g c =
    let queues = c.args.queues.now in
    let found = c.in-Some.ensures.lookup in
    let queue = c.in-Some.queue.now in
    let worker_queue = get_or c.loop-worker_queue.worker_queues c.loop-worker_queue.worker_queue-index c.worker_queue-item.result in
    let over = item_is_over c.args.workplace.now.plan.now.calls c.args.workplace.now.epoch in record {
      workers = All-set (IsWorkersAt queues) c.loop-worker_queue.worker_queues c.loop-worker_queue.worker_queue-index c.serve.new.worker_queue
          (record {
            queue = queue;
            at = subst (λ (shard : ℕ). slice_get queues shard ≡ Some queue) (sym c.serve.ensures.shard)
                (slice_get_read queues (length queues) worker_queue.shard queue refl found.3.0 (found.3.1 queue));
            workers = c.serve.ensures.workers;
          })
          c.loop-worker_queue.invariant.workers;
      over = λ before.
          let all = c.loop-worker_queue.invariant.over before in
          All-set (AllPass over) c.loop-worker_queue.worker_queues c.loop-worker_queue.worker_queue-index c.serve.new.worker_queue
          (c.in_ok-serve.ensures.over (All-get_or (AllPass over) c.loop-worker_queue.worker_queues c.loop-worker_queue.worker_queue-index c.worker_queue-item.result
          (omega (arith, c.loop-worker_queue-test.true)) all)) all;
    }

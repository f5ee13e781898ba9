-- Each job so far has a place of its own at each queue, where nothing is done with yet, and the run's places are still the run's.
use Rattle.std.proofs.Common.{◌≡◌, []}
use Rattle.std.specs.Prelude.{vec_len}
use Rattle.std.specs.List.{All}
use Rattle.call_queues.specs.Passing.{IsOwner, IsWorkersAt, OwnersKeep}
use Rattle.workers.proofs.epoch.jobs.Given as goal

abbrev pub invariant-loop-worker : goal.invariant-loop-worker
invariant-loop-worker g l = record {
  owners : All (λ o. IsOwner l.queues o) l.owners.items;
  ready : All (λ job. (job.queues.now ≡ l.queues) × All (λ s. IsWorkersAt l.queues s) job.worker_queues.items) l.jobs.items;
  len : vec_len l.jobs ≡ l.worker;
  workplace : All (λ job. job.workplace.now ≡ l.workplace) l.jobs.items;
  none : All (λ job. All (λ s. s.done.items ≡ []) job.worker_queues.items) l.jobs.items;
  back : OwnersKeep l.fn.owners.items l.owners.items;
}

-- The places so far are a worker's, each at the queue of its shard, where none is done with, and the run's places are still the run's.
use Rattle.std.proofs.Common.{◌≡◌, []}
use Rattle.std.specs.List.{All}
use Rattle.call_queues.specs.Passing.{IsOwner, IsWorkersAt, OwnersKeep}
use Rattle.call_queues.proofs.owners.worker_queues.Given as goal

abbrev pub invariant-loop-turn : goal.invariant-loop-turn
invariant-loop-turn g l = record {
  owners : All (λ o. IsOwner l.queues o) l.owners.items;
  worker_queues : All (λ s. IsWorkersAt l.queues s) l.worker_queues.items;
  none : All (λ s. s.done.items ≡ []) l.worker_queues.items;
  back : OwnersKeep l.fn.owners.items l.owners.items;
}

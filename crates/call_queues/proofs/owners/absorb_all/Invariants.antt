-- The run's places are still the run's, the places that are left are the worker's, and what passes a test at all of them did so before.
use Rattle.std.proofs.Common.{Bool}
use Rattle.std.specs.List.{All}
use Rattle.std.specs.Vec.Iter.{into_iter_items}
use Rattle.handover.specs.declared.hand.NumberedItem.{NumberedItem}
use Rattle.call_queues.specs.Passing.{IsOwner, IsWorkersAt, OwnersPass, WorkersPass}
use Rattle.call_queues.proofs.owners.absorb_all.Given as goal

abbrev pub invariant-loop-worker_queue : goal.invariant-loop-worker_queue
invariant-loop-worker_queue g l = record {
  owners : All (λ o. IsOwner l.queues o) l.owners.items;
  left : All (λ s. IsWorkersAt l.queues s) (into_iter_items l.worker_queue-iterator);
  back : (test : NumberedItem g.row.T.Denot → Bool) → OwnersPass test l.fn.owners.items → WorkersPass test l.fn.worker_queues.items
      → OwnersPass test l.owners.items × WorkersPass test (into_iter_items l.worker_queue-iterator);
}

-- The run's places are still the run's, those that are left are workers' still, and what passes a test at all of them did so before.
use Rattle.std.proofs.Common.{Bool}
use Rattle.std.specs.List.{All}
use Rattle.std.specs.Vec.Iter.{into_iter_items}
use Rattle.handover.specs.declared.hand.NumberedItem.{NumberedItem}
use Rattle.call_queues.specs.Passing.{IsOwner, IsWorkersAt, OwnersPass}
use Rattle.workers.specs.PlannedCall.{PlannedCall}
use Rattle.workers.specs.Working.{PassesUntroubled}
use Rattle.workers.proofs.epoch.gather.Given as goal

abbrev pub invariant-loop-worked : goal.invariant-loop-worked
invariant-loop-worked l = record {
  owners : All (λ o. IsOwner l.queues o) l.owners.items;
  left : All (λ worked. All (λ s. IsWorkersAt l.queues s) worked.worker_queues.items) (into_iter_items l.worked-iterator);
  back : (test : NumberedItem PlannedCall → Bool) → OwnersPass test l.fn.owners.items → All (PassesUntroubled test) l.fn.all.items
      → OwnersPass test l.owners.items × All (PassesUntroubled test) (into_iter_items l.worked-iterator);
}

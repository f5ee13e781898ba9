-- The places that are left are the run's, there are as many places as at first, and what the others have back is settled.
use Rattle.std.proofs.Common.{◌≡◌}
use Rattle.std.specs.Prelude.{vec_len}
use Rattle.std.specs.List.{All}
use Rattle.std.specs.Vec.Iter.{into_iter_items}
use Rattle.call_queues.specs.Passing.{IsOwner}
use Rattle.call_queues.proofs.SeatLemmas.{SettledSoFar}
use Rattle.call_queues.proofs.settling.settle.Given as goal

abbrev pub invariant-loop-owner : goal.invariant-loop-owner
invariant-loop-owner g l = record {
  places : vec_len l.places ≡ vec_len l.fn.places;
  left : All (λ o. IsOwner l.queues o) (into_iter_items l.owner-iterator);
  settled : SettledSoFar l.fn.owners.items (into_iter_items l.owner-iterator) l.fn.places.items l.places.items;
}

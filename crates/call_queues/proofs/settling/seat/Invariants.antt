-- There are as many places as at first, and the items that aren't left stand at their numbers.
use Rattle.std.proofs.Common.{◌≡◌}
use Rattle.std.specs.Prelude.{vec_len}
use Rattle.std.specs.Vec.Iter.{into_iter_items}
use Rattle.call_queues.proofs.SeatLemmas.{SeatedSoFar}
use Rattle.call_queues.proofs.settling.seat.Given as goal

abbrev pub invariant-loop-item : goal.invariant-loop-item
invariant-loop-item g l = record {
  len : vec_len l.places ≡ vec_len l.fn.places;
  seated : SeatedSoFar l.fn.items.items (into_iter_items l.item-iterator) l.fn.places.items l.places.items;
}

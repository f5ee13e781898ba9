-- There are as many places as at first, and the calls that aren't left stand at their numbers.
use Rattle.std.proofs.Common.{◌≡◌}
use Rattle.std.specs.Prelude.{vec_len}
use Rattle.std.specs.Vec.Iter.{into_iter_items}
use Rattle.run_shards.proofs.OpenLemmas.{SeatedSoFar}
use Rattle.run_shards.proofs.opening.seat.Given as goal

abbrev pub invariant-loop-next : goal.invariant-loop-next
invariant-loop-next l = record {
  len : vec_len l.places ≡ vec_len l.fn.places;
  seated : SeatedSoFar l.fn.nexts.items (into_iter_items l.next-iterator) l.fn.places.items l.places.items;
}

-- There are as many places as the plan has calls; the calls of the shards that are under their locks stand at their numbers, and all other shards are left.
use Rattle.std.proofs.Common.{◌≡◌, length}
use Rattle.std.specs.Prelude.{vec_len}
use Rattle.std.specs.Vec.Iter.{into_iter_items}
use Rattle.run_shards.proofs.OpenLemmas.{AreLeft, AreOpenedBelow}
use Rattle.run_shards.proofs.opening.open_all.Given as goal

abbrev pub invariant-loop-opened : goal.invariant-loop-opened
invariant-loop-opened g l = record {
  places : vec_len l.places ≡ length l.plan.calls;
  left : AreLeft l.checked.table l.plan.calls l.plan.shards (vec_len l.shards) (into_iter_items l.opened-iterator);
  opened : AreOpenedBelow l.checked.table l.plan.calls l.plan.shards (vec_len l.shards) l.places.items;
}

use Rattle.std.proofs.Common.{◌≡◌, map, drop}
use Rattle.toml.specs.View.{items_view}
use Rattle.typed_values.specs.Keys.{items_of}
use Rattle.typed_values.proofs.Fronts.{with_front}
use Rattle.typed_values.proofs.reads.items.Given as goal

abbrev pub invariant-loop-item : goal.invariant-loop-item
invariant-loop-item g l =
    with_front (map g.T.Reads.seen l.found.items) (items_of g.T.Reads.meaning (items_view (drop l.item-index l.item-items))) ≡ items_of g.T.Reads.meaning (items_view l.item-items)

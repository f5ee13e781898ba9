use Rattle.std.proofs.Common.{◌≡◌, map, drop}
use Rattle.toml.specs.View.{items_view}
use Rattle.typed_values.specs.Keys.{items_of}
use Rattle.typed_values.proofs.Fronts.{with_front}
use Rattle.plans.proofs.for_script.items.Given as goal

-- what was read, and what is still read, are the whole
abbrev pub invariant-loop-item : goal.invariant-loop-item
invariant-loop-item g l =
    with_front (map g.T.ReadsFor.seen l.found.items) (items_of (g.T.ReadsFor.meaning l.script) (items_view (drop l.item-index l.item-items)))
    ≡ items_of (g.T.ReadsFor.meaning l.script) (items_view l.item-items)

use Rattle.std.proofs.Common.{◌≡◌, drop}
use Rattle.std.specs.List.{list_all}
use Rattle.scriptreader.specs.Faults.{item_known}
use Rattle.scriptreader.proofs.uses.knows_items.Given as goal

abbrev pub invariant-loop-item : goal.invariant-loop-item
invariant-loop-item l = list_all (λ i. item_known l.scope i) (drop l.item-index l.items) ≡ list_all (λ i. item_known l.scope i) l.items

use Rattle.std.proofs.Common.{◌≡◌, map, take}
use Rattle.mg_model.specs.ListContents.{list_item}
use Rattle.agent.proofs.descriptors.list_items.Given as goal

abbrev pub invariant-loop-item : goal.invariant-loop-item
invariant-loop-item l = l.found.items ≡ map (list_item l.script) (take l.item-index l.items)

use Rattle.std.proofs.Common.{◌≡◌, drop}
use Rattle.mg_model.specs.LineEvents.{map_in}
use Rattle.line_events.proofs.list.map_among.Given as goal

abbrev pub invariant-loop-item : goal.invariant-loop-item
invariant-loop-item l = map_in (drop l.item-index l.items) ≡ map_in l.items

use Rattle.std.proofs.Common.{◌≡◌, take}
use Rattle.line_events.proofs.list.copied.Given as goal

abbrev pub invariant-loop-item : goal.invariant-loop-item
invariant-loop-item l = l.found.items ≡ take l.item-index l.items

-- The arrows from the states so far were added.
use Rattle.std.proofs.Common.{◌≡◌, ◌++◌}
use Rattle.std.specs.List.{flat_map}
use Rattle.call_ways.specs.Arrows.{arrows_from}
use Rattle.call_ways.specs.Numbers.{numbers}
use Rattle.call_ways.proofs.arrows.add_from_states.Given as goal

abbrev pub invariant-loop-state : goal.invariant-loop-state
invariant-loop-state l = l.list.items ≡ l.fn.list.items ++ flat_map (arrows_from l.script) (numbers l.state)

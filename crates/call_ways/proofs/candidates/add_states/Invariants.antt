-- What can be warned of the states so far was added.
use Rattle.std.proofs.Common.{◌≡◌, ◌++◌}
use Rattle.std.specs.List.{flat_map}
use Rattle.call_ways.specs.Candidates.{of_state}
use Rattle.call_ways.specs.Numbers.{numbers}
use Rattle.call_ways.proofs.candidates.add_states.Given as goal

abbrev pub invariant-loop-state : goal.invariant-loop-state
invariant-loop-state l = l.list.items ≡ l.fn.list.items ++ flat_map (of_state l.script) (numbers l.state)

use Rattle.std.proofs.Common.{◌≡◌, drop}
use Rattle.std.specs.List.{list_any}
use Rattle.scriptreader.specs.Faults.{state_repeats}
use Rattle.scriptreader.proofs.duplicates.states_repeat.Given as goal

abbrev pub invariant-loop-state : goal.invariant-loop-state
invariant-loop-state l = list_any (λ state. state_repeats state) (drop l.state-index l.states) ≡ list_any (λ state. state_repeats state) l.states

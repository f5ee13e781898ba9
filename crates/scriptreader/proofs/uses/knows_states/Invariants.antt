use Rattle.std.proofs.Common.{◌≡◌, drop}
use Rattle.std.specs.List.{list_all}
use Rattle.scriptreader.specs.Faults.{state_known}
use Rattle.scriptreader.proofs.uses.knows_states.Given as goal

abbrev pub invariant-loop-state : goal.invariant-loop-state
invariant-loop-state l = list_all (λ s. state_known l.scope s) (drop l.state-index l.states) ≡ list_all (λ s. state_known l.scope s) l.states

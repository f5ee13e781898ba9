use Rattle.std.proofs.Common.{◌≡◌, drop}
use Rattle.std.specs.List.{list_any}
use Rattle.scriptreader.specs.Faults.{makes_and_subtracts}
use Rattle.scriptreader.proofs.faults.one_makes_and_subtracts.Given as goal

abbrev pub invariant-loop-state : goal.invariant-loop-state
invariant-loop-state l = list_any (λ s. makes_and_subtracts s) (drop l.state-index l.states) ≡ list_any (λ s. makes_and_subtracts s) l.states

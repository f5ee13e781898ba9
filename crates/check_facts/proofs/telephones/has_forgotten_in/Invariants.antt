-- In none of the states so far.
use Rattle.call_ways.proofs.Below.{NoneBelow}
use Rattle.check_facts.specs.Forgotten.{HasForgottenIn}
use Rattle.check_facts.proofs.telephones.has_forgotten_in.Given as goal

abbrev pub invariant-loop-state : goal.invariant-loop-state
invariant-loop-state l = NoneBelow (HasForgottenIn l.script l.states) l.state

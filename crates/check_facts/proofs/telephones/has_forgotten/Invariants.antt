-- None of the lines so far.
use Rattle.call_ways.proofs.Below.{NoneBelow}
use Rattle.check_facts.specs.Forgotten.{HasForgottenAt}
use Rattle.check_facts.proofs.telephones.has_forgotten.Given as goal

abbrev pub invariant-loop-of_line : goal.invariant-loop-of_line
invariant-loop-of_line l = NoneBelow (HasForgottenAt l.script l.telephones) l.of_line-index

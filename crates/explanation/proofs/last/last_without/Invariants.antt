-- What was found is the last of those that were passed.
use Rattle.explanation.specs.Shown.{values_of}
use Rattle.explanation.proofs.LastSoFar.{IsSoFar}
use Rattle.explanation.proofs.last.last_without.Given as goal

abbrev pub invariant-loop-place : goal.invariant-loop-place
invariant-loop-place l = IsSoFar l.script (values_of l.configs) l.breach l.place l.found

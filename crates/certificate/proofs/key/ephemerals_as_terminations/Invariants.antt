-- What was added so far, followed by what is left, is the whole.
use Rattle.std.proofs.Common.{◌≡◌, ◌++◌, drop}
use Rattle.certificate.specs.Components.{ephemeral_terminations}
use Rattle.certificate.proofs.key.ephemerals_as_terminations.Given as goal

abbrev pub invariant-loop-ephemeral : goal.invariant-loop-ephemeral
invariant-loop-ephemeral l = l.terminations.items ++ ephemeral_terminations (drop l.ephemeral-index l.ephemerals) ≡ l.initial.terminations.items ++ ephemeral_terminations l.ephemerals

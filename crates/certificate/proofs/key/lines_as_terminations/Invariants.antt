-- What was added so far, followed by what is left, is the whole.
use Rattle.std.proofs.Common.{◌≡◌, ◌++◌, drop}
use Rattle.certificate.specs.Components.{line_terminations}
use Rattle.certificate.proofs.key.lines_as_terminations.Given as goal

abbrev pub invariant-loop-line : goal.invariant-loop-line
invariant-loop-line l = l.terminations.items ++ line_terminations (drop l.line-index l.lines) ≡ l.initial.terminations.items ++ line_terminations l.lines

-- What was added so far, followed by what is left, is the whole.
use Rattle.std.proofs.Common.{◌≡◌, ◌++◌, drop}
use Rattle.std.specs.List.{flat_map}
use Rattle.certificate.specs.Components.{line_keys}
use Rattle.certificate.proofs.key.add_lines.Given as goal

abbrev pub invariant-loop-line : goal.invariant-loop-line
invariant-loop-line l = l.keys.items ++ flat_map line_keys (drop l.line-index l.lines) ≡ l.initial.keys.items ++ flat_map line_keys l.lines

use Rattle.std.proofs.Common.{◌≡◌, drop}
use Rattle.mg_names.specs.declared.identifiers.TermId.{TermId}
use Rattle.terminations.specs.Table.{row_of, SameNumbers}
use Rattle.contexts.specs.BoardValue.{filled}
use Rattle.contexts.proofs.opening.add_lines.Given as goal

-- what is left to do makes of the rows now what the whole makes of the rows at the start
abbrev pub invariant-loop-line : goal.invariant-loop-line
invariant-loop-line l = ((t : TermId) → filled (drop l.line-index l.lines) (row_of l.terms) t ≡ filled l.lines (row_of l.fn.terms) t) × SameNumbers l.fn.terms l.terms

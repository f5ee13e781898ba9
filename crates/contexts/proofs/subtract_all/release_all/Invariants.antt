use Rattle.std.proofs.Common.{◌≡◌, drop}
use Rattle.mg_names.specs.declared.identifiers.TermId.{TermId}
use Rattle.terminations.specs.Table.{row_of, SameNumbers}
use Rattle.contexts.proofs.ClearLemmas.{cleared_by}
use Rattle.contexts.proofs.subtract_all.release_all.Given as goal

-- what is left to do makes of the rows now what the whole makes of the rows at the start
abbrev pub invariant-loop-t : goal.invariant-loop-t
invariant-loop-t l = ((u : TermId) → cleared_by (drop l.t-index l.group) (row_of l.terms) u ≡ cleared_by l.group (row_of l.fn.terms) u) × SameNumbers l.fn.terms l.terms

-- The rows are read alike, of lines and of ephemerals.
use Rattle.std.proofs.Common.{rules, ◌≡◌, ◌∙◌, ap}
use Rattle.std.specs.Prelude.{nat_eq}
use Rattle.std.specs.Map.{lookup}
use Rattle.mg_names.specs.declared.identifiers.TermId.{TermId}
use Rattle.mg_names.specs.declared.identifiers.TermId.TheVariants.{Line, Eph}
use Rattle.terminations.specs.Table.{Table, row_of}
use Rattle.terminations.proofs.terms.Terms.copy.Goals as goal

pub returns-clause-rows : goal.returns-clause-rows
unfolding row_of
returns-clause-rows c = λ i t. by_term t i
  where
    by_term : (t : TermId) → row_of (record { lines = c.in_ok-lines.lines.entries; ephemerals = c.in_ok-ephemerals.ephemerals }) t ≡ row_of c.args.self.now t
    by_term (Line l) = ap (lookup (nat_eq l.0)) c.in_ok-lines.ensures ∙ ap (λ (table : Table). lookup (nat_eq l.0) table.lines) c.self.view_is
    by_term (Eph k) = search rules

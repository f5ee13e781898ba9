-- The rows are those of the entry.
use Rattle.std.proofs.Common.{subst}
use Rattle.certificate.specs.FoundRows.{FindsPairs, cut_row}
use Rattle.certificate.proofs.PairLemmas.{finds_pairs}
use Rattle.typed_values.specs.Shape.{Gives, each}
use Rattle.certificate.proofs.entry_rows.named_pairs.Goals as goal

pub returns : goal.returns
returns c =
    let script = c.args.script.now in
    subst (λ e. FindsPairs (λ v. v.items) script e.cuts c.named_cuts.result) c.entry.view_is
    (finds_pairs script (λ v. v.items) c.entry.inside.cuts.items c.named_cuts.result
    (subst (λ rows. Gives (λ v. v.items) c.named_cuts.result (each (cut_row script) rows)) c.as_slice.ensures.value c.named_cuts.ensures))

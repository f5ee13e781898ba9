-- Nothing where it stands in no context or lets nothing in; else those of its context that let media out, less the barred.
use Rattle.std.proofs.Common.{◌≡◌, ℕ, ◌==◌, ◌/◌, ◌<◌, ◌≤◌, Bool, true, false, sym, ◌∙◌, arith}
use Rattle.std.proofs.lemmas.Grind.{common_steps}
use Rattle.configuration.specs.Config.{configuration_of}
use Rattle.configuration.specs.Words.{termination_at}
use Rattle.configuration.proofs.BitLemmas.{has_none}
use Rattle.configuration.proofs.RowLemmas.{no_hop, no_way_in, row_bits, fits_or}
use Rattle.configuration.proofs.rows.row.Goals as goal

no_way : (m : ℕ) (b : Bool) → (m / 2 == 1) ≡ b → m < 2 → b ≡ false
no_way m b e h = grind (arith, common_steps)

way : (m : ℕ) (b : Bool) → (m / 2 == 1) ≡ b → 2 ≤ m → m < 4 → b ≡ true
way m b e h l = grind (arith, common_steps)

pub returns-then-number-eq0-clause-value : goal.returns-then-number-eq0-clause-value
returns-then-number-eq0-clause-value c u h =
    has_none u ∙ sym (no_hop (configuration_of c.args.config.now) (termination_at c.args.source) (termination_at u)
    (sym c.context_number-number.ensures.value ∙ c.if-number-eq0.true))

pub returns-then-mode_number-lt2-clause-value : goal.returns-then-mode_number-lt2-clause-value
returns-then-mode_number-lt2-clause-value c u h =
    has_none u ∙ sym (no_way_in (configuration_of c.args.config.now) (termination_at c.args.source) (termination_at u)
    (no_way _ _ c.mode_number.ensures.inward c.if-mode_number-lt2.true))

pub returns-clause-value : goal.returns-clause-value
returns-clause-value c u h =
    rw c.field.ensures.value (row_bits c.args.config.now c.args.source u c.context_number-number.result c.args.senders c.cut_row.result
    c.requires.source h c.context_number-number.ensures.value c.if-number-eq0.false c.context_number-number.ensures.small
    (way _ _ c.mode_number.ensures.inward c.if-mode_number-lt2.false c.mode_number.ensures.small) c.requires.senders
    (rw c.cuts_word.ensures.value at c.cut_row.ensures) (fits_or c.cut_row.result c.args.source c.cut_row.type_inv))

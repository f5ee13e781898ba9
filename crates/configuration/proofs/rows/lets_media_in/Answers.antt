-- Four modes that let nothing in.
use Rattle.std.proofs.Common.{◌≡◌, ◌∙◌, ◌<◌, ℕ, zero, suc, sym, arith, false, bit_or}
use Rattle.std.proofs.lemmas.Grind.{common_steps}
use Rattle.mg_model.specs.Paths.{passes_in}
use Rattle.mg_model.specs.declared.commands.Termination.TheVariants.{Line}
use Rattle.configuration.specs.Config.{configuration_of}
use Rattle.configuration.proofs.WayLemmas.{small_of_four, no_half}
use Rattle.configuration.proofs.rows.lets_media_in.Goals as goal

pub returns : goal.returns
returns c none i below = by_line i below
  where
    below_two : bit_or (bit_or c.mode_number.result c.mode_number-2.result) (bit_or c.mode_number-3.result c.mode_number-4.result) < 2
    below_two = grind (arith, common_steps, none)

    small : (c.mode_number.result < 2) × (c.mode_number-2.result < 2) × (c.mode_number-3.result < 2) × (c.mode_number-4.result < 2)
    small = small_of_four c.mode_number.result c.mode_number-2.result c.mode_number-3.result c.mode_number-4.result below_two

    by_line : (i : ℕ) → i < 4 → passes_in ((configuration_of c.args.config.now).mode (Line i)) ≡ false
    by_line zero h = sym c.mode_number.ensures.inward ∙ no_half c.mode_number.result small.0
    by_line (suc zero) h = sym c.mode_number-2.ensures.inward ∙ no_half c.mode_number-2.result small.1
    by_line (suc (suc zero)) h = sym c.mode_number-3.ensures.inward ∙ no_half c.mode_number-3.result small.2
    by_line (suc (suc (suc zero))) h = sym c.mode_number-4.ensures.inward ∙ no_half c.mode_number-4.result small.3
    by_line (suc (suc (suc (suc i)))) h = absurd (omega arith)

-- A mode by its number.
use Rattle.std.proofs.Common.{ap, sym, ◌∙◌, arith}
use Rattle.configuration.specs.Codes.{mode_code, mode_at}
use Rattle.configuration.specs.Config.{configuration_of, mode_in}
use Rattle.configuration.proofs.ValueSetLemmas.{told, within_four}
use Rattle.configuration.proofs.WordLemmas.{mode_back, small}
use Rattle.configuration.proofs.value_set.ValueSet.modes.Goals as goal

pub returns-in-Line : goal.returns-in-Line
unfolding configuration_of
returns-in-Line c w p = told mode_code mode_at _ _ c.numbers_of-allowed.ensures _ 0 _ 2
    (rw c.line_place.ensures.value at c.of_field.ensures) (omega arith) w
    (mode_back _ (small _ _ 2)) _
    (within_four c.in-Line.line _ _ c.line_place.ensures.slot ∙ ap (mode_in w) (sym c.in-Line.is))

pub returns-in-Ephemeral : goal.returns-in-Ephemeral
unfolding configuration_of
returns-in-Ephemeral c w p = told mode_code mode_at _ _ c.numbers_of-allowed.ensures _ 1 _ 2
    (rw c.ephemeral_place.ensures.value at c.of_field-in-Ephemeral.ensures) (omega arith) w
    (mode_back _ (small _ _ 2)) _
    (within_four c.in-Ephemeral.ephemeral _ _ c.ephemeral_place.ensures.slot ∙ ap (mode_in w) (sym c.in-Ephemeral.is))

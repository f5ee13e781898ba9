-- Where a line or an ephemeral stands, each by its own numbers.
use Rattle.std.proofs.Common.{ap, sym, ◌∙◌, arith}
use Rattle.configuration.specs.Codes.{line_spot_code, line_spot_at, ephemeral_spot_code, ephemeral_spot_at}
use Rattle.configuration.specs.Config.{configuration_of, spot_in}
use Rattle.configuration.proofs.ValueSetLemmas.{told, within_four, line_spot_same}
use Rattle.configuration.proofs.WordLemmas.{ephemeral_spot_back}
use Rattle.configuration.proofs.value_set.ValueSet.spots.Goals as goal

pub returns-in-Line : goal.returns-in-Line
unfolding configuration_of
returns-in-Line c w p = told line_spot_code line_spot_at _ _ c.numbers_of-allowed.ensures _ 0 _ 3
    (rw c.line_place.ensures.value at c.of_field.ensures) (omega arith) w
    (line_spot_same _ (p.lines.spots _ c.line_place.ensures.slot)) _
    (within_four c.in-Line.line _ _ c.line_place.ensures.slot ∙ ap (spot_in w) (sym c.in-Line.is))

pub returns-in-Ephemeral : goal.returns-in-Ephemeral
unfolding configuration_of
returns-in-Ephemeral c w p = told ephemeral_spot_code ephemeral_spot_at _ _ c.numbers_of-allowed-in-Ephemeral.ensures _ 1 _ 3
    (rw c.ephemeral_place.ensures.value at c.of_field-in-Ephemeral.ensures) (omega arith) w
    (ephemeral_spot_back _ (p.ephemerals.spots _ c.ephemeral_place.ensures.slot)) _
    (within_four c.in-Ephemeral.ephemeral _ _ c.ephemeral_place.ensures.slot ∙ ap (spot_in w) (sym c.in-Ephemeral.is))

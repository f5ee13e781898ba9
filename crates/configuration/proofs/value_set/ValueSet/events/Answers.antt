-- An events list by its number.
use Rattle.std.proofs.Common.{arith}
use Rattle.configuration.specs.Codes.{events_code, events_at}
use Rattle.configuration.specs.Config.{configuration_of}
use Rattle.configuration.proofs.ValueSetLemmas.{told, within_four}
use Rattle.configuration.proofs.WordLemmas.{events_back}
use Rattle.configuration.proofs.value_set.ValueSet.events.Goals as goal

pub returns : goal.returns
unfolding configuration_of
returns c w p = told events_code events_at _ _ c.numbers_of-allowed.ensures _ 0 _ 5
    (rw c.line_place.ensures.value at c.of_field.ensures) (omega arith) w
    (events_back _ (p.lines.events _ c.line_place.ensures.slot)) _ (within_four _ _ _ c.line_place.ensures.slot)

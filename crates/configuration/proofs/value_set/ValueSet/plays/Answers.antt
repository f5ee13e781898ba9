-- A flag by its number.
use Rattle.std.proofs.Common.{arith}
use Rattle.configuration.specs.Codes.{flag_code, flag_at}
use Rattle.configuration.specs.Config.{configuration_of}
use Rattle.configuration.proofs.ValueSetLemmas.{told, within_four}
use Rattle.configuration.proofs.WordLemmas.{flag_back, small}
use Rattle.configuration.proofs.value_set.ValueSet.plays.Goals as goal

pub returns : goal.returns
unfolding configuration_of
returns c w p = told flag_code flag_at _ _ c.numbers_of-allowed.ensures _ 0 _ 1
    (rw c.line_place.ensures.value at c.of_field.ensures) (omega arith) w
    (flag_back _ (small _ _ 1)) _ (within_four _ _ _ c.line_place.ensures.slot)

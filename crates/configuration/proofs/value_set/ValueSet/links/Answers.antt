-- A link by its number.
use Rattle.std.proofs.Common.{arith, refl}
use Rattle.configuration.specs.Codes.{link_code, link_at}
use Rattle.configuration.specs.Config.{configuration_of}
use Rattle.configuration.proofs.ValueSetLemmas.{told}
use Rattle.configuration.proofs.WordLemmas.{link_back, small}
use Rattle.configuration.proofs.value_set.ValueSet.links.Goals as goal

pub returns : goal.returns
unfolding configuration_of
returns c w p = told link_code link_at _ _ c.numbers_of-allowed.ensures _ 0 _ 2 c.of_field.ensures (omega arith) w
    (link_back _ (small _ 6 2)) _ (refl)

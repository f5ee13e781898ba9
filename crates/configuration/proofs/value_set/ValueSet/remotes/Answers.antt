-- A Remote by its number.
use Rattle.std.proofs.Common.{arith}
use Rattle.configuration.specs.Codes.{remote_code, remote_at}
use Rattle.configuration.specs.Config.{configuration_of}
use Rattle.configuration.proofs.ValueSetLemmas.{told, within_four}
use Rattle.configuration.proofs.WordLemmas.{remote_back}
use Rattle.configuration.proofs.value_set.ValueSet.remotes.Goals as goal

pub returns : goal.returns
unfolding configuration_of
returns c w p = told remote_code remote_at _ _ c.numbers_of-allowed.ensures _ 1 _ 3
    (rw c.ephemeral_place.ensures.value at c.of_field.ensures) (omega arith) w
    (remote_back _ (p.ephemerals.remotes _ c.ephemeral_place.ensures.slot)) _ (within_four _ _ _ c.ephemeral_place.ensures.slot)

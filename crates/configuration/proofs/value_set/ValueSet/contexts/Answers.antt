-- What a context name stands for, by its number.
use Rattle.std.proofs.Common.{arith}
use Rattle.configuration.specs.Codes.{context_code, context_at}
use Rattle.configuration.specs.Config.{configuration_of}
use Rattle.configuration.proofs.ValueSetLemmas.{told, within_four}
use Rattle.configuration.proofs.WordLemmas.{context_back}
use Rattle.configuration.proofs.value_set.ValueSet.contexts.Goals as goal

pub returns : goal.returns
unfolding configuration_of
returns c w p = told context_code context_at _ _ c.numbers_of-allowed.ensures _ 0 _ 2
    (rw c.context_place.ensures.value at c.of_field.ensures) (omega arith) w
    (context_back _ (p.lines.contexts _ c.context_place.ensures.slot)) _ (within_four _ _ _ c.context_place.ensures.slot)

-- A value has its bit, or is still to come.
use Rattle.std.proofs.Common.{drop}
use Rattle.configuration.proofs.NumberLemmas.{IsNumbered}
use Rattle.configuration.proofs.numbers.numbers_of.Given as goal

abbrev pub invariant-loop-value : goal.invariant-loop-value
invariant-loop-value g l =
    IsNumbered g.N.Numbers.code g.N.Numbers.value_at l.values l.bits (drop l.value-index l.values)

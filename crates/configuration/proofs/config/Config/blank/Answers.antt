-- All fields of zero are zero.
use Rattle.configuration.proofs.UnusedLemmas.{zero_packed, zero_unused}
use Rattle.configuration.proofs.config.Config.blank.Goals as goal

pub invariant_of-result : goal.invariant_of-result
invariant_of-result c = zero_packed

pub returns : goal.returns
returns c = zero_unused

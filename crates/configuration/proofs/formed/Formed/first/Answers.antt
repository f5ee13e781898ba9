-- Nothing is there that could be wrong.
use Rattle.std.proofs.Common.{sym, subst}
use Rattle.mg_model.specs.Configuration.{IsWellFormed}
use Rattle.configuration.proofs.FormedLemmas.{unused_formed}
use Rattle.configuration.proofs.formed.Formed.first.Goals as goal

pub invariant_of-result : goal.invariant_of-result
invariant_of-result c = subst IsWellFormed (sym c.unused.ensures) unused_formed

-- The law.
use Rattle.mg_merge.proofs.Identifiers.Lasting.{they_last}
use Rattle.mg_merge.proofs.laws.identifiers_last.Goals as goal

pub returns : goal.returns
returns c = they_last

-- The law.
use Rattle.mg_merge.proofs.Identifiers.Lasting.{they_are_left}
use Rattle.mg_merge.proofs.laws.identifiers_are_left.Goals as goal

pub returns : goal.returns
returns c = they_are_left

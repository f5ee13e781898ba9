-- The law.
use Rattle.mg_alike.proofs.Events.Begun.{beginnings_happen}
use Rattle.mg_alike.proofs.laws.beginnings_happen_alike.Goals as goal

pub returns : goal.returns
returns c = beginnings_happen

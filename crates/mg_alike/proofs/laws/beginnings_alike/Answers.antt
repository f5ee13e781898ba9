-- The law.
use Rattle.mg_alike.proofs.Events.Begun.{beginnings_alike}
use Rattle.mg_alike.proofs.laws.beginnings_alike.Goals as goal

pub returns : goal.returns
returns c = beginnings_alike

-- The law.
use Rattle.mg_alike.proofs.Events.Every.{restarts_alike}
use Rattle.mg_alike.proofs.laws.restarts_alike.Goals as goal

pub returns : goal.returns
returns c = restarts_alike

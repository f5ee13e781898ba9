-- The law.
use Rattle.mg_alike.proofs.Events.Every.{events_alike}
use Rattle.mg_alike.proofs.laws.events_alike.Goals as goal

pub returns : goal.returns
returns c = events_alike

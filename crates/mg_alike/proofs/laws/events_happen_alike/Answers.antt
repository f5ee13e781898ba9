-- The law.
use Rattle.mg_alike.proofs.Events.Happening.{events_happen_exactly}
use Rattle.mg_alike.proofs.laws.events_happen_alike.Goals as goal

pub returns : goal.returns
returns c = events_happen_exactly

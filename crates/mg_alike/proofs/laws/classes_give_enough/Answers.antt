-- The law.
use Rattle.mg_alike.proofs.Alone.Enough.{classes_enough}
use Rattle.mg_alike.proofs.laws.classes_give_enough.Goals as goal

pub returns : goal.returns
returns c = classes_enough

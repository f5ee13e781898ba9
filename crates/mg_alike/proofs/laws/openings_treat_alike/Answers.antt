-- The law.
use Rattle.mg_alike.proofs.Events.Others.{openings_alike}
use Rattle.mg_alike.proofs.laws.openings_treat_alike.Goals as goal

pub returns : goal.returns
returns c = openings_alike

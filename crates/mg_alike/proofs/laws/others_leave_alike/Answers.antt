-- The law.
use Rattle.mg_alike.proofs.Events.Others.{others_alike}
use Rattle.mg_alike.proofs.laws.others_leave_alike.Goals as goal

pub returns : goal.returns
returns c = others_alike

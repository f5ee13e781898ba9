-- The law.
use Rattle.mg_alike.proofs.Events.Requests.{executes_alike}
use Rattle.mg_alike.proofs.laws.executes_alike.Goals as goal

pub returns : goal.returns
returns c = executes_alike

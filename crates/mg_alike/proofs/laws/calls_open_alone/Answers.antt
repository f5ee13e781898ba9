-- The law.
use Rattle.mg_alike.proofs.Alone.Opening.{calls_open_alone}
use Rattle.mg_alike.proofs.laws.calls_open_alone.Goals as goal

pub returns : goal.returns
returns c = calls_open_alone

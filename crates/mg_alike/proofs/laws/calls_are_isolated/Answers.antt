-- The law.
use Rattle.mg_alike.proofs.Events.Alone.{calls_isolated}
use Rattle.mg_alike.proofs.laws.calls_are_isolated.Goals as goal

pub returns : goal.returns
returns c = calls_isolated

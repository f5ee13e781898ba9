-- The law.
use Rattle.mg_safety.proofs.GoingOn.Ended.{calls_be_ended}
use Rattle.mg_safety.proofs.runs.calls_can_be_ended.Goals as goal

pub returns : goal.returns
returns c = calls_be_ended

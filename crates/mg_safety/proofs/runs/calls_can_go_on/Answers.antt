-- The law.
use Rattle.mg_safety.proofs.GoingOn.LedOn.{calls_go_on}
use Rattle.mg_safety.proofs.runs.calls_can_go_on.Goals as goal

pub returns : goal.returns
returns c = calls_go_on

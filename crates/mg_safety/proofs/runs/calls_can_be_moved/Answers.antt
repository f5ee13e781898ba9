-- The law.
use Rattle.mg_safety.proofs.GoingOn.Moved.{calls_be_moved}
use Rattle.mg_safety.proofs.runs.calls_can_be_moved.Goals as goal

pub returns : goal.returns
returns c = calls_be_moved

-- Fates go with steps.
use Rattle.call_ways.proofs.Executed.{go_with_steps}
use Rattle.call_ways.proofs.laws.fates_go_with_steps.Goals as goal

pub returns : goal.returns
returns c = go_with_steps

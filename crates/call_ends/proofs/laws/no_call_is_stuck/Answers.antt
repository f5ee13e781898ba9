-- No call is stuck.
use Rattle.call_ends.proofs.Stuck.{none_stuck}
use Rattle.call_ends.proofs.laws.no_call_is_stuck.Goals as goal

pub returns : goal.returns
returns c = none_stuck

-- Runs follow ways.
use Rattle.call_ways.proofs.Followed.{runs_follow}
use Rattle.call_ways.proofs.laws.runs_follow_ways.Goals as goal

pub returns : goal.returns
returns c = runs_follow

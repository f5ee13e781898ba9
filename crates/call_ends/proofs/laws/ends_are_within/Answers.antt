-- Ends are within.
use Rattle.call_ends.proofs.Within.{ends_within}
use Rattle.call_ends.proofs.laws.ends_are_within.Goals as goal

pub returns : goal.returns
returns c = ends_within

-- The law.
use Rattle.mg_safety.proofs.SmallLaws.OpeningLaws.{lost_are_not_joined}
use Rattle.mg_safety.proofs.laws.lost_calls_are_not_joined.Goals as goal

pub returns : goal.returns
returns c = lost_are_not_joined

-- The law.
use Rattle.mg_safety.proofs.SmallLaws.OpeningLaws.{openings_good}
use Rattle.mg_safety.proofs.laws.openings_are_good.Goals as goal

pub returns : goal.returns
returns c = openings_good

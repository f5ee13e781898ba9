-- The law.
use Rattle.mg_safety.proofs.SmallLaws.OpeningLaws.{calls_apart}
use Rattle.mg_safety.proofs.laws.calls_stay_apart.Goals as goal

pub returns : goal.returns
returns c = calls_apart

-- The law.
use Rattle.mg_safety.proofs.SmallLaws.BoardLaws.{paths_inside}
use Rattle.mg_safety.proofs.laws.paths_stay_inside.Goals as goal

pub returns : goal.returns
returns c = paths_inside

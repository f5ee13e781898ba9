-- The law.
use Rattle.mg_safety.proofs.SmallLaws.DistinctLines.{lines_distinct}
use Rattle.mg_safety.proofs.laws.lines_stay_distinct.Goals as goal

pub returns : goal.returns
returns c = lines_distinct

-- The law.
use Rattle.mg_safety.proofs.GoodWorlds.LeftAlone.{left_alone}
use Rattle.mg_safety.proofs.runs.others_are_left_alone.Goals as goal

pub returns : goal.returns
returns c = left_alone

-- The law.
use Rattle.mg_safety.proofs.GoodWorlds.LeftAlone.{others_kept}
use Rattle.mg_safety.proofs.runs.others_are_kept.Goals as goal

pub returns : goal.returns
returns c = others_kept

-- The law.
use Rattle.mg_safety.proofs.GoodWorlds.Beginning.{lost_may_not_begin}
use Rattle.mg_safety.proofs.runs.lost_calls_may_not_begin.Goals as goal

pub returns : goal.returns
returns c = lost_may_not_begin

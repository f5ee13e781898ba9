-- The law.
use Rattle.mg_safety.proofs.GoodWorlds.Beginning.{ended_may_begin}
use Rattle.mg_safety.proofs.runs.ended_calls_may_begin.Goals as goal

pub returns : goal.returns
returns c = ended_may_begin

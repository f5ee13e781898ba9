-- The law.
use Rattle.mg_safety.proofs.SmallLaws.CallLaws.{restarts}
use Rattle.mg_safety.proofs.laws.restarts_clear_lines.Goals as goal

pub returns : goal.returns
returns c = restarts

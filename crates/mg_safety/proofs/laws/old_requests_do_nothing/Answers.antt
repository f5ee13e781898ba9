-- The law.
use Rattle.mg_safety.proofs.SmallLaws.CallLaws.{old_requests}
use Rattle.mg_safety.proofs.laws.old_requests_do_nothing.Goals as goal

pub returns : goal.returns
returns c = old_requests

-- The law.
use Rattle.mg_safety.proofs.SmallLaws.CallLaws.{events_keep}
use Rattle.mg_safety.proofs.laws.events_keep_others.Goals as goal

pub returns : goal.returns
returns c = events_keep

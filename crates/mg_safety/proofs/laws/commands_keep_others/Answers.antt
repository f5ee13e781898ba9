-- The law.
use Rattle.mg_safety.proofs.SmallLaws.BoardLaws.{commands_keep}
use Rattle.mg_safety.proofs.laws.commands_keep_others.Goals as goal

pub returns : goal.returns
returns c = commands_keep

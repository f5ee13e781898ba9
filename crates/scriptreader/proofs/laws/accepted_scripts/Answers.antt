-- The law.
use Rattle.scriptreader.proofs.Accepted.{accepted}
use Rattle.scriptreader.proofs.FewCommands.{few_commands}
use Rattle.scriptreader.proofs.laws.accepted_scripts.Goals as goal

pub returns : goal.returns
returns c = λ bytes table h. (accepted bytes table h, few_commands bytes table h)

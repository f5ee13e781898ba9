-- What a run lets a line play is what ways give it.
use Rattle.call_ends.proofs.RunsTell.{runs_tell}
use Rattle.call_ends.proofs.laws.runs_tell.Goals as goal

pub returns : goal.returns
returns c = runs_tell

-- What brings a call to its end is worth as much in a world.
use Rattle.call_ends.proofs.Stuck.{calls_end}
use Rattle.call_ends.proofs.laws.calls_can_end.Goals as goal

pub returns : goal.returns
returns c = calls_end

-- A part that is cut off leaves the queue fair.
use Rattle.handover.proofs.FairSteps.{forks}
use Rattle.handover.proofs.queue.Queue.another.Goals as goal

pub another-requires-clause-rule : goal.another-requires-clause-rule
another-requires-clause-rule g c = forks _ _ c.requires.parts

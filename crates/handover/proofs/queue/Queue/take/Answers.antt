-- A thing that comes out leaves the queue fair, and a share with all parts learns of an empty one that all that was put was taken.
use Rattle.handover.proofs.FairLessons.{learns}
use Rattle.handover.proofs.FairSteps.{takes}
use Rattle.handover.proofs.queue.Queue.take.Goals as goal

pub pop_as-requires-clause-rule : goal.pop_as-requires-clause-rule
pop_as-requires-clause-rule g c = (takes _ _ c.requires.part, learns _ _)

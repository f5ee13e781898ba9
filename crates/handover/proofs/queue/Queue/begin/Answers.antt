-- A thing with a new number leaves the queue fair, and finds room: a full queue would hold more things than were put and not taken.
use Rattle.handover.proofs.FairLessons.{learns}
use Rattle.handover.proofs.FairSteps.{begins}
use Rattle.handover.proofs.queue.Queue.begin.Goals as goal

pub push_as-requires-clause-rule : goal.push_as-requires-clause-rule
push_as-requires-clause-rule g c = (begins _ _ _ _ c.requires.whole c.requires.new, learns _ _)

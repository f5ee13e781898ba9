-- A share with all parts learns what stands.
use Rattle.handover.proofs.FairLessons.{learns}
use Rattle.handover.proofs.queue.Queue.look.Goals as goal

pub learn_as-requires-clause-rule : goal.learn_as-requires-clause-rule
learn_as-requires-clause-rule g c = learns _ _

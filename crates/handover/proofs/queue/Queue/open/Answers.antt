-- A new queue is fair: nothing was put, and its share has all parts.
use Rattle.handover.proofs.FairSteps.{opens}
use Rattle.handover.proofs.queue.Queue.open.Goals as goal

pub ruled-requires-clause-rule : goal.ruled-requires-clause-rule
ruled-requires-clause-rule g c = opens

-- Two shares in one leave the queue fair.
use Rattle.handover.proofs.FairSteps.{merges}
use Rattle.handover.proofs.queue.Queue.absorb.Goals as goal

pub absorb-requires-clause-rule : goal.absorb-requires-clause-rule
absorb-requires-clause-rule g c = merges _ _ _ _

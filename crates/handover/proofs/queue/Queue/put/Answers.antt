-- A thing that the share holds goes in again, and leaves the queue fair.
use Rattle.handover.proofs.FairSteps.{puts}
use Rattle.handover.proofs.queue.Queue.put.Goals as goal

pub push_as-requires-clause-rule : goal.push_as-requires-clause-rule
push_as-requires-clause-rule g c = (
  puts _ _ _ _ (rw c.loop.invariant.knows c.requires.part) (rw (c.loop.invariant.knows, c.loop.invariant.thing) c.requires.held),
  λ items views fair at. tt,
)

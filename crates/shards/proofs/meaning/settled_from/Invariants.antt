-- Those before the place are settled.
use Rattle.agent.specs.AgentValue.{agent_of}
use Rattle.shards.specs.CallRecords.{AreSettled}
use Rattle.shards.proofs.meaning.settled_from.Given as goal

abbrev pub invariant-loop-place : goal.invariant-loop-place
invariant-loop-place l = AreSettled (agent_of l.agent) l.notes l.place

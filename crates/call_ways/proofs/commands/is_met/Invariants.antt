-- On none of the arrows so far this becomes of it.
use Rattle.call_ways.proofs.Below.{NoneBelow}
use Rattle.call_ways.specs.Meeting.{IsMetAt}
use Rattle.call_ways.proofs.commands.is_met.Given as goal

abbrev pub invariant-loop-crossing : goal.invariant-loop-crossing
invariant-loop-crossing l = NoneBelow (IsMetAt l.crossings l.state l.place l.it) l.crossing-index

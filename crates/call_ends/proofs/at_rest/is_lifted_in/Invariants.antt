-- None of those so far is.
use Rattle.call_ways.proofs.Below.{NoneBelow}
use Rattle.call_ends.specs.Spreading.{IsLifted}
use Rattle.call_ends.proofs.Telling.{SoAt}
use Rattle.call_ends.proofs.at_rest.is_lifted_in.Given as goal

abbrev pub invariant-loop-node : goal.invariant-loop-node
invariant-loop-node l = NoneBelow (SoAt IsLifted l.nodes l.state) l.node-index

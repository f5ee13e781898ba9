-- None of those so far is.
use Rattle.call_ways.proofs.Below.{NoneBelow}
use Rattle.call_ends.specs.Spreading.{IsHeard}
use Rattle.call_ends.proofs.Telling.{SoAt}
use Rattle.call_ends.proofs.at_rest.is_heard_in.Given as goal

abbrev pub invariant-loop-node : goal.invariant-loop-node
invariant-loop-node l = NoneBelow (SoAt (IsHeard l.script l.line) l.nodes l.state) l.node-index

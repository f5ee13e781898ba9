-- None of those so far is.
use Rattle.call_ways.proofs.Below.{NoneBelow}
use Rattle.call_ends.specs.Spreading.{IsSilent}
use Rattle.call_ends.proofs.Telling.{SoAt}
use Rattle.call_ends.proofs.at_rest.is_silent_in.Given as goal

abbrev pub invariant-loop-node : goal.invariant-loop-node
invariant-loop-node l = NoneBelow (SoAt (IsSilent l.script l.line) l.nodes l.state) l.node-index

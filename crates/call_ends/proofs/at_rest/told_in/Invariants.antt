-- What those so far rest with is told.
use Rattle.call_ends.proofs.Telling.{HaveTold}
use Rattle.call_ends.proofs.at_rest.told_in.Given as goal

abbrev pub invariant-loop-node : goal.invariant-loop-node
invariant-loop-node l = HaveTold l.nodes l.state l.node-index l.sets.items

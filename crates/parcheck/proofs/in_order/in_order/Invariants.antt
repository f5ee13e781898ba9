-- What is found up to a place, and the runs from there on that jobs have walked over.
use Rattle.std.proofs.Common.{drop, length}
use Rattle.closure.specs.Runs.{IsOfRun}
use Rattle.parcheck.specs.Pieces.{AreWalked}
use Rattle.parcheck.proofs.in_order.in_order.Given as goal

abbrev pub invariant-loop-walked : goal.invariant-loop-walked
invariant-loop-walked l = record {
  left : AreWalked l.script l.cert l.reached (drop l.walked-index l.all) (length l.cert);
  found : IsOfRun l.script l.cert 0 l.reached l.found;
}

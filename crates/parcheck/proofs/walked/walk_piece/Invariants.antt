-- So far nothing is left out, and the walk is still in its piece.
use Rattle.std.proofs.Common.{◌≤◌, ◌-◌}
use Rattle.closure.specs.Runs.{IsOfRun}
use Rattle.parcheck.proofs.walked.walk_piece.Given as goal

abbrev pub invariant-loop-last : goal.invariant-loop-last
invariant-loop-last l = record {
  rises : l.piece.first ≤ l.last;
  within : l.piece.first ≤ l.piece.last → l.last ≤ l.piece.last;
  found : IsOfRun l.script l.cert l.piece.first l.last l.found;
}

abbrev pub decreases-loop-last : goal.decreases-loop-last
decreases-loop-last l = l.piece.last - l.last

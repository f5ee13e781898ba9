-- The run has come so far, and no farther than it may.
use Rattle.std.proofs.Common.{◌≤◌, ◌-◌}
use Rattle.parcheck.proofs.pieces.end_of.Given as goal

abbrev pub invariant-loop-end : goal.invariant-loop-end
invariant-loop-end l = record {
  from : l.first ≤ l.end;
  within : l.end ≤ l.last;
}

abbrev pub decreases-loop-end : goal.decreases-loop-end
decreases-loop-end l = l.last - l.end

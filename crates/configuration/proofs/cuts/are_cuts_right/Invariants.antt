-- What the walk has left, and that what it has passed is right.
use Rattle.configuration.proofs.CutLemmas.{IsWalked}
use Rattle.configuration.proofs.cuts.are_cuts_right.Given as goal

abbrev pub invariant-loop-left : goal.invariant-loop-left
invariant-loop-left l = IsWalked l.config l.left

abbrev pub decreases-loop-left : goal.decreases-loop-left
decreases-loop-left l = l.left

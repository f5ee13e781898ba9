-- What stands before `start` has no divider.
use Rattle.std.proofs.Common.{length, ◌-◌, ◌≤◌}
use Rattle.program_rim.proofs.Lines.{IsCutAt}
use Rattle.program_rim.proofs.sections.cut.Given as goal

abbrev pub invariant-loop-start : goal.invariant-loop-start
invariant-loop-start l = record {
  within : l.start ≤ length l.text;
  cut : IsCutAt l.text l.start;
}

abbrev pub decreases-loop-start : goal.decreases-loop-start
decreases-loop-start l = length l.text - l.start

-- Those of the steps so far, which are no more than the steps.
use Rattle.std.proofs.Common.{◌≡◌, ◌≤◌, take}
use Rattle.run_steps.specs.CallsTold.{idle_told}
use Rattle.run_steps.proofs.call_steps.idle_told.Given as goal

abbrev pub invariant-loop-step : goal.invariant-loop-step
invariant-loop-step l = record {
  counted : l.idle ≡ idle_told l.number.0 (take l.step-index l.steps);
  few : l.idle ≤ l.step-index;
}

-- Those of the steps so far.
use Rattle.std.proofs.Common.{◌≡◌, take}
use Rattle.run_steps.specs.CallsTold.{events_told}
use Rattle.run_steps.proofs.call_steps.events_told.Given as goal

abbrev pub invariant-loop-step : goal.invariant-loop-step
invariant-loop-step l = l.events.items ≡ events_told l.number.0 (take l.step-index l.steps)

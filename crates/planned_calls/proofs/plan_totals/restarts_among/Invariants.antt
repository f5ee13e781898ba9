-- The restarts so far and those that are left are all.
use Rattle.std.proofs.Common.{◌≡◌, ◌+◌, drop}
use Rattle.mg_model.specs.Plans as plans
use Rattle.planned_calls.proofs.plan_totals.restarts_among.Given as goal

abbrev pub invariant-loop-step : goal.invariant-loop-step
invariant-loop-step l = l.restarts + plans.restarts_among (drop l.step-index l.steps) ≡ plans.restarts_among l.steps

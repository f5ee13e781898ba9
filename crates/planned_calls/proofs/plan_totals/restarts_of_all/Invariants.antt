-- The restarts so far and those that are left are all.
use Rattle.std.proofs.Common.{◌≡◌, ◌+◌, drop}
use Rattle.mg_model.specs.Plans as plans
use Rattle.planned_calls.proofs.plan_totals.restarts_of_all.Given as goal

abbrev pub invariant-loop-call : goal.invariant-loop-call
invariant-loop-call l = l.restarts + plans.restarts_of_all (drop l.call-index l.plan.calls) ≡ plans.restarts_of_all l.plan.calls

-- The most of the calls so far and of those that are left is the most of all.
use Rattle.std.proofs.Common.{◌≡◌, drop, max}
use Rattle.mg_model.specs.Plans as plans
use Rattle.planned_calls.proofs.plan_totals.epochs_of.Given as goal

abbrev pub invariant-loop-call : goal.invariant-loop-call
invariant-loop-call l = max l.most (plans.epochs_of (drop l.call-index l.plan.calls)) ≡ plans.epochs_of l.plan.calls

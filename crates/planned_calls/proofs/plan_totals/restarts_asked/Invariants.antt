-- The restarts so far and those that are left are all.
use Rattle.std.proofs.Common.{◌≡◌, ◌+◌, drop}
use Rattle.mg_model.specs.Plans as plans
use Rattle.planned_calls.proofs.plan_totals.restarts_asked.Given as goal

abbrev pub invariant-loop-epoch : goal.invariant-loop-epoch
invariant-loop-epoch l = l.restarts + plans.restarts_asked (drop l.epoch-index l.call.epochs) ≡ plans.restarts_asked l.call.epochs

use Rattle.std.proofs.Common.{◌≡◌, ◌+◌, drop}
use Rattle.plans.specs.PlanValue.{steps_of}
use Rattle.plans.proofs.plan.has_more_steps.Given as goal

-- what is left is what was allowed, less the steps so far
abbrev pub invariant-loop-epoch : goal.invariant-loop-epoch
invariant-loop-epoch l = l.left + steps_of l.epochs ≡ 1000 + steps_of (drop l.epoch-index l.epochs)

-- The calls are those that stand at their places, once all epochs are passed.
use Rattle.std.proofs.Common.{◌≡◌, ◌+◌, ℕ, List, ap, subst}
use Rattle.mg_model.specs.Plans.{Plan, PlanCall, epochs_of}
use Rattle.workers.specs.PlanSteps.{AreOver}
use Rattle.workers.proofs.OverLemmas.{have_ended}
use Rattle.workers.proofs.epochs.go.Goals as goal

pub returns-clause-ended : goal.returns-clause-ended
returns-clause-ended g c =
    have_ended c.args.plan.now.calls c.in_ok-places.places.items c.in_ok-planned_calls.planned_calls.items c.in_ok-planned_calls.ensures.same
    (subst (λ (calls : List PlanCall). (epoch : ℕ) → epoch + 1 ≡ epochs_of calls → AreOver calls epoch c.in_ok-places.places.items)
    (ap (λ (plan : Plan). plan.calls) c.new-run_plan.ensures) c.in_ok-places.ensures.over)

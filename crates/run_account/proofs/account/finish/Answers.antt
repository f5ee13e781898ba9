-- What is told of the shards while they are there holds of the histories that are left of them.
use Rattle.std.proofs.Common.{◌≡◌, ◌∙◌, List, length, map, sym, ap, subst, arith}
use Rattle.mg_model.specs.declared.events.Event.{Event}
use Rattle.run_shards.specs.PlannedCall.{PlannedCall}
use Rattle.run_shards.specs.Shards.{ShardValue}
use Rattle.run_account.specs.Comparing.{trails_of}
use Rattle.run_account.specs.Merging.{one_history}
use Rattle.run_account.specs.Runs.{IsOutcome, IsRunOf}
use Rattle.run_account.proofs.account.finish.Goals as goal

pub invariant_of-result : goal.invariant_of-result
invariant_of-result g c =
    let restarts = c.in_ok-told.told.restarts in
    let shards = c.args.played.shards.items in
    let planned_calls = c.args.planned_calls.items in
    let told : IsOutcome (one_history (map (λ v. v.history) shards) restarts) (trails_of planned_calls) =
    subst (λ (vs : List ShardValue). IsOutcome (one_history (map (λ v. v.history) vs) restarts) (trails_of planned_calls)) c.as_slice.ensures.value
    (subst (λ (cs : List PlannedCall). IsOutcome (one_history (map (λ v. v.history) c.as_slice.result.now) restarts) (trails_of cs)) c.as_slice-3.ensures.value
    c.in_ok-told.ensures.outcome) in
    subst (λ (histories : List (List Event)). IsOutcome (one_history histories restarts) (trails_of planned_calls)) (sym c.in_ok-histories.ensures) told

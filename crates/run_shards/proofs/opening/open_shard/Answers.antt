-- The calls that the shard hands out are those of the plan that stand in it.
use Rattle.std.proofs.Common.{◌∙◌, List, ap}
use Rattle.mg_model.specs.Plans.{PlanCall}
use Rattle.planned_calls.specs.Parts.{opened_in}
use Rattle.run_shards.proofs.OpenLemmas.{handed_out_in}
use Rattle.run_shards.proofs.opening.open_shard.Goals as goal

pub returns-in_ok-locked-in-Ok : goal.returns-in_ok-locked-in-Ok
returns-in_ok-locked-in-Ok g c =
    handed_out_in c.args.checked.now.table c.in_ok-calls.calls.items (opened_in c.args.count c.args.number 0 c.args.plan.now.calls) c.in-Ok.nexts.items
    (c.in_ok-calls.ensures ∙ ap (λ (calls : List PlanCall). opened_in c.args.count c.args.number 0 calls) c.calls.ensures) c.in-Ok.ensures.1

-- One call of the plan more; where none is left, these are all.
use Rattle.std.proofs.Common.{◌≡◌, ◌∙◌, ◌++◌, map, get_or, ap, arith}
use Rattle.mg_model.specs.Plans.{PlanCall}
use Rattle.planned_calls.specs.Shards.{opened_as}
use Rattle.planned_calls.specs.Parts.{one_in, opened_in}
use Rattle.planned_calls.proofs.PartCalls.{all_in, one_more_in}
use Rattle.run_shards.proofs.opening.calls_of.Goals as goal

pub loop-call-preserved : goal.loop-call-preserved
loop-call-preserved c =
    let calls = c.args.calls.now in
    let i = c.loop-call.call-index in
    let so_far = map opened_as c.loop-call.opened.items in
    let added : map opened_as c.push_call.new.opened.items
    ≡ so_far ++ one_in c.args.count c.args.shard c.loop-call.number (get_or calls i c.call-item.result) =
    c.in_ok-push_call.ensures ∙ ap (λ (call : PlanCall). so_far ++ one_in c.args.count c.args.shard c.loop-call.number call) c.call-item.is in
    record {
      number = omega (arith, c.loop-call.invariant.number);
      opened = one_more_in c.args.count c.args.shard c.loop-call.number i calls c.call-item.result so_far (map opened_as c.push_call.new.opened.items)
          (opened_in c.args.count c.args.shard 0 calls) c.loop-call-test.true added c.loop-call.invariant.opened;
    }

pub returns : goal.returns
returns c =
    all_in c.args.count c.args.shard c.loop-call.number c.loop-call.call-index c.args.calls.now (map opened_as c.loop-call.opened.items)
    (opened_in c.args.count c.args.shard 0 c.args.calls.now) c.loop-call-test.false c.loop-call.invariant.opened

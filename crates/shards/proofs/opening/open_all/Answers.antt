-- Each call that opens is one more that is open; where one doesn't, that is the answer.
use Rattle.std.proofs.Common.{◌≡◌, ◌∙◌, ◌+◌, ◌++◌, List, [], ◌∷◌, take, sym, ap, subst, arith}
use Rattle.std.proofs.lemmas.List.{take_more}
use Rattle.gateway.specs.GatewayValue.{gateway_of}
use Rattle.agent.specs.declared.call.Next.{Next}
use Rattle.identifiers.specs.Class.{is_of_class}
use Rattle.shards.proofs.OpenedShards.{entered_more, none_opened, one_opened}
use Rattle.shards.proofs.TakenCalls.{HaveAllLines, not_opened, one_more_has_all, there_after, there_at_first}
use Rattle.shards.specs.Opening.{AreEntered, AreOpenedOn}
use Rattle.shards.specs.declared.opened.OpenedCall.{OpenedCall}
use Rattle.shards.proofs.opening.open_all.Goals as goal

pub loop-call-init : goal.loop-call-init
loop-call-init c = (
  subst (λ entries. AreOpenedOn c.args.script.now [] c.args.first c.args.stride c.in-Ok-with_ids.gateway entries) (sym c.new-call_table.ensures.empty)
      (none_opened c.args.script.now c.args.first c.args.stride c.as_slice.result.now c.in-Ok-with_ids.gateway c.in-Ok-with_ids.ensures.gateway c.in-Ok-with_ids.ensures.no_call),
  subst (λ (nexts : List Next). AreEntered c.args.script.now [] nexts) (sym c.new-nexts.ensures.items) tt,
  λ one among. absurd (let below = among.1 in omega (arith, below)),
  there_at_first c.args.calls.now (is_of_class c.args.first c.args.stride) (gateway_of c.in-Ok-with_ids.gateway) c.as_slice.result.now
      (c.as_slice.ensures.value ∙ c.in-Ok.ensures) c.in-Ok-with_ids.ensures.gateway,
)

pub returns-in-Err : goal.returns-in-Err
returns-in-Err c =
    let calls = c.args.calls.now in
    let i = c.loop-call.call-index in
    let item = c.call-item.result in
    not_opened c.args.script.now calls i c.args.first c.args.stride c.loop-call.gateway c.open_one.new.gateway c.loop-call.call_table.entries c.open_one.new.call_table.entries
    item (i, c.loop-call-test.true, sym c.call-item.is)
    (ap (λ (x : OpenedCall). take i calls ++ x ∷ []) c.call-item.is ∙ sym (take_more calls i item c.loop-call-test.true))
    c.loop-call.invariant.0 c.loop-call.invariant.2 c.loop-call.invariant.3 c.in-Err.fault c.in-Err.ensures

pub loop-call-preserved : goal.loop-call-preserved
loop-call-preserved c =
    let calls = c.args.calls.now in
    let i = c.loop-call.call-index in
    let item = c.call-item.result in
    let here : take i calls ++ item ∷ [] ≡ take (i + 1) calls =
    ap (λ (x : OpenedCall). take i calls ++ x ∷ []) c.call-item.is ∙ sym (take_more calls i item c.loop-call-test.true) in (
      subst (λ (cs : List OpenedCall). AreOpenedOn c.args.script.now cs c.args.first c.args.stride c.open_one.new.gateway c.open_one.new.call_table.entries) here
          (one_opened c.args.script.now (take i calls) c.args.first c.args.stride c.loop-call.gateway c.open_one.new.gateway c.loop-call.call_table.entries
          c.open_one.new.call_table.entries item c.loop-call.invariant.0 c.in-Ok-open_one.ensures.0),
      subst (λ (cs : List OpenedCall). AreEntered c.args.script.now cs c.push.new.self.items) here
          (subst (λ (nexts : List Next). AreEntered c.args.script.now (take i calls ++ item ∷ []) nexts) (sym c.in-Ok-push.ensures.items)
          (entered_more c.args.script.now (take i calls) c.loop-call.nexts.items item c.in-Ok-open_one.next c.loop-call.invariant.1 c.in-Ok-open_one.ensures.1)),
      subst (λ (cs : List OpenedCall). HaveAllLines c.args.script.now cs) here
          (one_more_has_all c.args.script.now (take i calls) item c.loop-call.invariant.2 c.in-Ok-open_one.ensures.0.all_lines),
      there_after calls (gateway_of c.loop-call.gateway) (gateway_of c.open_one.new.gateway) item.call.0 item.lines.items c.in-Ok-open_one.ensures.0.gateway
          c.loop-call.invariant.3,
    )

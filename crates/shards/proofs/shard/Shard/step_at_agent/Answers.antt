-- The call that is handed in and its record take one step, and the event is the last of the history; or all is as it was.
use Rattle.std.proofs.Common.{◌∙◌, ◌++◌, List, [], ◌∷◌, inl, refl, sym, ap, subst}
use Rattle.mg_model.specs.declared.events.Event.{Event}
use Rattle.mg_model.specs.declared.events.Event.TheVariants.{OfCall}
use Rattle.agent.specs.Calls.{value_of}
use Rattle.shards.proofs.ShardSteps.{stays_unchanged}
use Rattle.shards.proofs.TakenSteps.{agent_back, agent_forward, back_as, not_told, of_another, ready}
use Rattle.shards.proofs.ValueSteps.{call_is}
use Rattle.shards.specs.Shards.{ShardValue}
use Rattle.shards.specs.CallTable.{StepsIn, record_in}
use Rattle.shards.specs.Stepping.{CannotOccur}
use Rattle.shards.proofs.shard.Shard.step_at_agent.Goals as goal

pub returns-then-call : goal.returns-then-call
returns-then-call c = (
  inl (of_another _ c.args.next c.args.call.0 c.args.event (inl c.requires)
      (λ same. c.if-call.true (c.call.ensures ∙ call_is (value_of c.args.next) ∙ same))),
  (stays_unchanged _, back_as c.args.next c.args.next refl),
)

pub returns-then-not-is_told : goal.returns-then-not-is_told
returns-then-not-is_told c = (
  inl (subst (λ (v : ShardValue). CannotOccur v c.args.next (OfCall c.args.call c.args.event)) c.self.view_is
      (not_told _ c.args.next c.args.call.0 c.args.event (sym c.is_told.ensures ∙ c.if-not-is_told.true))),
  (stays_unchanged _, back_as c.args.next c.args.next refl),
)

pub step-next-requires : goal.step-next-requires
step-next-requires c = ready _ c.self.invariant c.args.call.0 c.room.ensures.few

pub invariant_of-self-in-Err : goal.invariant_of-self-in-Err
invariant_of-self-in-Err c =
    (agent_back _ _ c.self.view_is c.self.invariant c.args.call.0 c.args.next c.step-next.result.0
    (sym (call_is (value_of c.args.next)) ∙ sym c.call.ensures ∙ c.if-call.false) c.args.event c.requires c.step-next.new.call_table.entries c.step-next.ensures.others
    c.room.new.history.items c.room.ensures.items c.in-Err.why
    (subst (λ told. StepsIn c.self.inside.script.now c.args.next c.args.event (record_in c.self.inside.call_table.entries c.args.call.0)
    (record_in c.step-next.new.call_table.entries c.args.call.0) c.step-next.result.0 told) c.in-Err.is c.step-next.ensures.stepped)).0

pub returns-in-Err : goal.returns-in-Err
returns-in-Err c =
    (agent_back _ _ c.self.view_is c.self.invariant c.args.call.0 c.args.next c.step-next.result.0
    (sym (call_is (value_of c.args.next)) ∙ sym c.call.ensures ∙ c.if-call.false) c.args.event c.requires c.step-next.new.call_table.entries c.step-next.ensures.others
    c.room.new.history.items c.room.ensures.items c.in-Err.why
    (subst (λ told. StepsIn c.self.inside.script.now c.args.next c.args.event (record_in c.self.inside.call_table.entries c.args.call.0)
    (record_in c.step-next.new.call_table.entries c.args.call.0) c.step-next.result.0 told) c.in-Err.is c.step-next.ensures.stepped)).1

pub invariant_of-self-2 : goal.invariant_of-self-2
invariant_of-self-2 c =
    (agent_forward _ _ c.self.view_is c.self.invariant c.args.call.0 c.args.next c.step-next.result.0
    (sym (call_is (value_of c.args.next)) ∙ sym c.call.ensures ∙ c.if-call.false) c.args.event c.requires c.step-next.new.call_table.entries c.step-next.ensures.others
    (sym c.is_told.ensures ∙ c.if-not-is_told.false) c.push_reserved.new.self.items
    (c.push_reserved.ensures.items ∙ ap (λ (events : List Event). events ++ OfCall c.args.call c.args.event ∷ []) c.room.ensures.items)
    (subst (λ told. StepsIn c.self.inside.script.now c.args.next c.args.event (record_in c.self.inside.call_table.entries c.args.call.0)
    (record_in c.step-next.new.call_table.entries c.args.call.0) c.step-next.result.0 told) c.in_default-done.is c.step-next.ensures.stepped)).0

pub returns : goal.returns
returns c =
    (agent_forward _ _ c.self.view_is c.self.invariant c.args.call.0 c.args.next c.step-next.result.0
    (sym (call_is (value_of c.args.next)) ∙ sym c.call.ensures ∙ c.if-call.false) c.args.event c.requires c.step-next.new.call_table.entries c.step-next.ensures.others
    (sym c.is_told.ensures ∙ c.if-not-is_told.false) c.push_reserved.new.self.items
    (c.push_reserved.ensures.items ∙ ap (λ (events : List Event). events ++ OfCall c.args.call c.args.event ∷ []) c.room.ensures.items)
    (subst (λ told. StepsIn c.self.inside.script.now c.args.next c.args.event (record_in c.self.inside.call_table.entries c.args.call.0)
    (record_in c.step-next.new.call_table.entries c.args.call.0) c.step-next.result.0 told) c.in_default-done.is c.step-next.ensures.stepped)).1

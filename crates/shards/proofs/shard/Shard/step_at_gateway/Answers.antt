-- The event happens at the gateway and in the record, and the call that is handed in writes it down; or all is as it was, but for room.
use Rattle.std.proofs.Common.{◌∙◌, ◌++◌, List, [], ◌∷◌, inl, inr, refl, sym, ap, subst}
use Rattle.mg_model.specs.declared.events.Event.{Event}
use Rattle.mg_model.specs.declared.events.Event.TheVariants.{OfCall}
use Rattle.agent.specs.CallValue.{CallValue}
use Rattle.agent.specs.Calls.{IsWithEvent, value_of}
use Rattle.shards.proofs.GatewaySteps.{gateway_back, gateway_forward, loggable_as, with_more_room}
use Rattle.shards.proofs.ShardSteps.{stays_unchanged}
use Rattle.shards.proofs.TakenSteps.{back_as, counts_notes, of_another, ready}
use Rattle.shards.proofs.ValueSteps.{call_is}
use Rattle.shards.specs.CallTable.{record_in}
use Rattle.shards.specs.Stepping.{AtGateway}
use Rattle.shards.proofs.shard.Shard.step_at_gateway.Goals as goal

pub returns-then-call : goal.returns-then-call
returns-then-call c = (
  inl (of_another _ c.args.next c.args.call.0 c.args.event (inr c.requires)
      (λ same. c.if-call.true (c.call.ensures ∙ call_is (value_of c.args.next) ∙ same))),
  (stays_unchanged _, back_as c.args.next c.args.next refl),
)

pub at_gateway-requires-clause-ready : goal.at_gateway-requires-clause-ready
at_gateway-requires-clause-ready c = ready _ c.self.invariant c.args.call.0 c.room.ensures.few

pub at_gateway-requires-clause-notes : goal.at_gateway-requires-clause-notes
at_gateway-requires-clause-notes c = counts_notes _ c.self.invariant c.args.call.0

pub invariant_of-self-in-Err : goal.invariant_of-self-in-Err
invariant_of-self-in-Err c =
    (gateway_back _ _ c.self.view_is c.self.invariant c.args.call.0 c.args.next c.room-2.new.self
    (sym (call_is (value_of c.args.next)) ∙ sym c.call.ensures ∙ c.if-call.false) c.args.event c.requires c.at_gateway.new.gateway c.at_gateway.new.call_table.entries
    c.at_gateway.ensures.others (with_more_room c.args.next c.room-2.new.self c.room-2.ensures.kind c.in-Ok-room.ensures.made)
    c.room.new.history.items c.room.ensures.items c.in-Err.why
    (subst (λ told. AtGateway c.self.inside.gateway c.at_gateway.new.gateway c.args.call.0 c.args.event (record_in c.self.inside.call_table.entries c.args.call.0)
    (record_in c.at_gateway.new.call_table.entries c.args.call.0) told) c.in-Err.is c.at_gateway.ensures.happened)).0

pub returns-in-Err : goal.returns-in-Err
returns-in-Err c =
    (gateway_back _ _ c.self.view_is c.self.invariant c.args.call.0 c.args.next c.room-2.new.self
    (sym (call_is (value_of c.args.next)) ∙ sym c.call.ensures ∙ c.if-call.false) c.args.event c.requires c.at_gateway.new.gateway c.at_gateway.new.call_table.entries
    c.at_gateway.ensures.others (with_more_room c.args.next c.room-2.new.self c.room-2.ensures.kind c.in-Ok-room.ensures.made)
    c.room.new.history.items c.room.ensures.items c.in-Err.why
    (subst (λ told. AtGateway c.self.inside.gateway c.at_gateway.new.gateway c.args.call.0 c.args.event (record_in c.self.inside.call_table.entries c.args.call.0)
    (record_in c.at_gateway.new.call_table.entries c.args.call.0) told) c.in-Err.is c.at_gateway.ensures.happened)).1

pub log_event-next-requires-clause-loggable : goal.log_event-next-requires-clause-loggable
log_event-next-requires-clause-loggable c =
    loggable_as c.args.call.0 (value_of c.room-2.new.self).agent.call c.args.event
    (sym (ap (λ (v : CallValue). v.agent.call) c.in-Ok-room.ensures.made ∙ sym (call_is (value_of c.args.next)) ∙ sym c.call.ensures ∙ c.if-call.false)) c.requires

pub invariant_of-self-2 : goal.invariant_of-self-2
invariant_of-self-2 c =
    (gateway_forward _ _ c.self.view_is c.self.invariant c.args.call.0 c.args.next c.log_event-next.result
    (sym (call_is (value_of c.args.next)) ∙ sym c.call.ensures ∙ c.if-call.false) c.args.event c.requires c.at_gateway.new.gateway c.at_gateway.new.call_table.entries
    c.at_gateway.ensures.others c.log_event-next.ensures.kind
    (subst (λ (v : CallValue). IsWithEvent (OfCall c.args.call c.args.event) v (value_of c.log_event-next.result)) c.in-Ok-room.ensures.made c.log_event-next.ensures.logged)
    c.push_reserved.new.self.items
    (c.push_reserved.ensures.items ∙ ap (λ (events : List Event). events ++ OfCall c.args.call c.args.event ∷ []) c.room.ensures.items)
    (subst (λ told. AtGateway c.self.inside.gateway c.at_gateway.new.gateway c.args.call.0 c.args.event (record_in c.self.inside.call_table.entries c.args.call.0)
    (record_in c.at_gateway.new.call_table.entries c.args.call.0) told) c.in_default-at_gateway.is c.at_gateway.ensures.happened)).0

pub returns : goal.returns
returns c =
    (gateway_forward _ _ c.self.view_is c.self.invariant c.args.call.0 c.args.next c.log_event-next.result
    (sym (call_is (value_of c.args.next)) ∙ sym c.call.ensures ∙ c.if-call.false) c.args.event c.requires c.at_gateway.new.gateway c.at_gateway.new.call_table.entries
    c.at_gateway.ensures.others c.log_event-next.ensures.kind
    (subst (λ (v : CallValue). IsWithEvent (OfCall c.args.call c.args.event) v (value_of c.log_event-next.result)) c.in-Ok-room.ensures.made c.log_event-next.ensures.logged)
    c.push_reserved.new.self.items
    (c.push_reserved.ensures.items ∙ ap (λ (events : List Event). events ++ OfCall c.args.call c.args.event ∷ []) c.room.ensures.items)
    (subst (λ told. AtGateway c.self.inside.gateway c.at_gateway.new.gateway c.args.call.0 c.args.event (record_in c.self.inside.call_table.entries c.args.call.0)
    (record_in c.at_gateway.new.call_table.entries c.args.call.0) told) c.in_default-at_gateway.is c.at_gateway.ensures.happened)).1

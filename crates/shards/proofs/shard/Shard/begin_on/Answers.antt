-- The call has ended on both sides, so another begins on its lines; or all is as it was, but for room.
use Rattle.std.proofs.Common.{◌≡◌, ◌∙◌, ◌++◌, List, [], ◌∷◌, Some, inl, refl, sym, ap, subst}
use Rattle.std.specs.Prelude.{option_map}
use Rattle.mg_model.specs.declared.events.CallEvent.TheVariants.{Begin}
use Rattle.mg_model.specs.declared.events.Event.{Event}
use Rattle.mg_model.specs.declared.events.Event.TheVariants.{OfCall}
use Rattle.gateway.specs.Beginnings.{IsBegun}
use Rattle.agent.specs.AgentValue.{agent_of}
use Rattle.agent.specs.declared.call.Next.TheVariants as next
use Rattle.shards.proofs.BegunShards.{forward_kept, forward_taken, not_ended, not_own, refused_by, with_more_room, only_more_room}
use Rattle.shards.proofs.ShardSteps.{stays_unchanged}
use Rattle.shards.proofs.TakenSteps.{back_as}
use Rattle.shards.proofs.ValueSteps.{call_is}
use Rattle.shards.specs.Beginnings.{has_ended}
use Rattle.shards.specs.Shards.{ShardValue}
use Rattle.shards.specs.CallTable.{record_in}
use Rattle.shards.specs.Stepping.{CannotOccur}
use Rattle.shards.proofs.shard.Shard.begin_on.Goals as goal

pub returns-then-call-old : goal.returns-then-call-old
returns-then-call-old c = (
  inl (not_own _ c.args.ended c.args.call.0 c.args.old.0 (λ same. c.if-call-old.true (c.call.ensures ∙ call_is c.args.ended ∙ same))),
  (stays_unchanged _, back_as (next.Ended c.args.ended) (next.Ended c.args.ended) refl),
)

pub returns-then-not-has_ended : goal.returns-then-not-has_ended
returns-then-not-has_ended c = (
  inl (subst (λ (v : ShardValue). CannotOccur v (next.Ended c.args.ended) (OfCall c.args.call (Begin c.args.old))) c.self.view_is
      (not_ended _ c.args.ended c.args.call.0 c.args.old.0 c.in-Some.call_record.now (sym c.call_record.ensures ∙ ap (option_map (λ s. s.now)) c.in-Some.is)
      (ap (has_ended c.self.inside.script.now (agent_of c.in-Some.call_record.now.agent)) (sym c.association.ensures) ∙ sym c.has_ended.ensures ∙ c.if-not-has_ended.true))),
  (stays_unchanged _, back_as (next.Ended c.args.ended) (next.Ended c.args.ended) refl),
)

pub invariant_of-self-in_default-reserve : goal.invariant_of-self-in_default-reserve
invariant_of-self-in_default-reserve c =
    (only_more_room _ _ c.self.view_is c.self.invariant c.args.ended c.args.call.0 c.args.old.0 c.reserve.new.call_table.entries c.reserve.ensures.same
    c.room.new.history.items c.room.ensures.items (next.Ended c.room-2.new.self) (with_more_room c.args.ended c.room-2.new.self c.in-Ok-room.ensures.made)).0

pub returns-in_default-reserve : goal.returns-in_default-reserve
returns-in_default-reserve c =
    (only_more_room _ _ c.self.view_is c.self.invariant c.args.ended c.args.call.0 c.args.old.0 c.reserve.new.call_table.entries c.reserve.ensures.same
    c.room.new.history.items c.room.ensures.items (next.Ended c.room-2.new.self) (with_more_room c.args.ended c.room-2.new.self c.in-Ok-room.ensures.made)).1

pub invariant_of-self-in-Err : goal.invariant_of-self-in-Err
invariant_of-self-in-Err c =
    (refused_by _ _ c.self.view_is c.self.invariant c.args.ended c.args.call.0 c.args.old.0 c.reserve.new.call_table.entries c.reserve.ensures.same
    c.begin.new.self c.in-Err.fault (subst (IsBegun c.self.inside.gateway c.args.old.0 c.args.call.0 c.begin.new.self) c.in-Err.is c.begin.ensures)
    c.refusal_of.result c.refusal_of.ensures c.room.new.history.items c.room.ensures.items (next.Ended c.room-2.new.self) (with_more_room c.args.ended c.room-2.new.self c.in-Ok-room.ensures.made)).0

pub returns-in-Err : goal.returns-in-Err
returns-in-Err c =
    (refused_by _ _ c.self.view_is c.self.invariant c.args.ended c.args.call.0 c.args.old.0 c.reserve.new.call_table.entries c.reserve.ensures.same
    c.begin.new.self c.in-Err.fault (subst (IsBegun c.self.inside.gateway c.args.old.0 c.args.call.0 c.begin.new.self) c.in-Err.is c.begin.ensures)
    c.refusal_of.result c.refusal_of.ensures c.room.new.history.items c.room.ensures.items (next.Ended c.room-2.new.self) (with_more_room c.args.ended c.room-2.new.self c.in-Ok-room.ensures.made)).1

pub invariant_of-self-2 : goal.invariant_of-self-2
invariant_of-self-2 c =
    forward_kept _ _ c.self.view_is c.self.invariant c.args.ended c.args.call.0 c.args.old.0 (sym (call_is c.args.ended) ∙ sym c.call.ensures ∙ c.if-call-old.false)
    c.in-Some.call_record.now there (ap (has_ended c.self.inside.script.now (agent_of c.in-Some.call_record.now.agent)) (sym c.association.ensures) ∙ sym c.has_ended.ensures ∙ c.if-not-has_ended.false)
    c.reserve.new.call_table.entries c.reserve.ensures.same c.begin.new.self
    (subst (IsBegun c.self.inside.gateway c.args.old.0 c.args.call.0 c.begin.new.self) c.in_default-begin.is c.begin.ensures)
    c.hand_over.new.call_table.entries (c.hand_over.ensures c.in-Some.call_record.now (c.reserve.ensures.same c.args.old.0 ∙ there))
    c.push_reserved.new.self.items
    (c.push_reserved.ensures.items ∙ ap (λ (events : List Event). events ++ OfCall c.args.call (Begin c.args.old) ∷ []) c.room.ensures.items)
  where
    there : record_in c.self.inside.call_table.entries c.args.old.0 ≡ Some c.in-Some.call_record.now
    there = sym c.call_record.ensures ∙ ap (option_map (λ s. s.now)) c.in-Some.is

pub returns : goal.returns
returns c =
    forward_taken _ _ c.self.view_is c.self.invariant c.args.ended c.args.call.0 c.args.old.0 (sym (call_is c.args.ended) ∙ sym c.call.ensures ∙ c.if-call-old.false)
    c.in-Some.call_record.now there (ap (has_ended c.self.inside.script.now (agent_of c.in-Some.call_record.now.agent)) (sym c.association.ensures) ∙ sym c.has_ended.ensures ∙ c.if-not-has_ended.false)
    c.reserve.new.call_table.entries c.reserve.ensures.same c.begin.new.self
    (subst (IsBegun c.self.inside.gateway c.args.old.0 c.args.call.0 c.begin.new.self) c.in_default-begin.is c.begin.ensures)
    c.hand_over.new.call_table.entries (c.hand_over.ensures c.in-Some.call_record.now (c.reserve.ensures.same c.args.old.0 ∙ there))
    c.push_reserved.new.self.items
    (c.push_reserved.ensures.items ∙ ap (λ (events : List Event). events ++ OfCall c.args.call (Begin c.args.old) ∷ []) c.room.ensures.items)
    c.room-2.new.self c.in-Ok-room.ensures.made c.begun.result.0 c.begun.result.1 c.begun.ensures
  where
    there : record_in c.self.inside.call_table.entries c.args.old.0 ≡ Some c.in-Some.call_record.now
    there = sym c.call_record.ensures ∙ ap (option_map (λ s. s.now)) c.in-Some.is

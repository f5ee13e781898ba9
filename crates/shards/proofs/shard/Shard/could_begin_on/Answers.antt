-- The call has ended on both sides and the gateway lets the new one begin; or one of these isn't so.
use Rattle.std.proofs.Common.{◌∙◌, inl, inr, sym, ap, subst}
use Rattle.std.specs.Prelude.{option_map}
use Rattle.mg_model.specs.declared.events.CallEvent.TheVariants.{Begin}
use Rattle.mg_model.specs.declared.events.Event.TheVariants.{OfCall}
use Rattle.gateway.specs.Beginnings.{CanBegin}
use Rattle.agent.specs.AgentValue.{agent_of}
use Rattle.agent.specs.declared.call.Next.TheVariants as next
use Rattle.shards.proofs.BegunShards.{not_ended, not_own}
use Rattle.shards.proofs.PossibleEvents.{begun_possible, not_begun}
use Rattle.shards.proofs.ValueSteps.{call_is}
use Rattle.shards.specs.Beginnings.{has_ended}
use Rattle.shards.specs.CouldHappen.{CouldHappen}
use Rattle.shards.specs.Shards.{ShardValue}
use Rattle.shards.specs.CallTable.{record_in}
use Rattle.shards.specs.Stepping.{CannotOccur, IsNotEnabled}
use Rattle.shards.proofs.shard.Shard.could_begin_on.Goals as goal

pub returns-then-call-old : goal.returns-then-call-old
returns-then-call-old c = inl (not_own _ c.args.ended.now c.args.call.0 c.args.old.0 (λ same. c.if-call-old.true (c.call.ensures ∙ call_is c.args.ended.now ∙ same)))

pub returns-in_default : goal.returns-in_default
returns-in_default c =
    inr (ap (λ (v : ShardValue). record_in v.call_table c.args.ended.now.agent.call) (sym c.self.view_is)
    ∙ ap (record_in c.self.inside.call_table.entries) (sym (call_is c.args.ended.now) ∙ sym c.call.ensures ∙ c.if-call-old.false) ∙ sym c.call_record.ensures
    ∙ ap (option_map (λ s. s.now)) c.in_default.is)

pub returns-then-not-has_ended : goal.returns-then-not-has_ended
returns-then-not-has_ended c =
    inl (subst (λ (v : ShardValue). CannotOccur v (next.Ended c.args.ended.now) (OfCall c.args.call (Begin c.args.old))) c.self.view_is
    (not_ended _ c.args.ended.now c.args.call.0 c.args.old.0 c.in-Some.call_record.now (sym c.call_record.ensures ∙ ap (option_map (λ s. s.now)) c.in-Some.is)
    (ap (has_ended c.self.inside.script.now (agent_of c.in-Some.call_record.now.agent)) (sym c.association.ensures) ∙ sym c.has_ended.ensures ∙ c.if-not-has_ended.true)))

pub returns-in_default-can_begin : goal.returns-in_default-can_begin
returns-in_default-can_begin c =
    subst (λ (v : ShardValue). IsNotEnabled v (next.Ended c.args.ended.now) (OfCall c.args.call (Begin c.args.old))) c.self.view_is
    (not_begun _ c.self.invariant c.args.ended.now c.args.call.0 c.args.old.0 c.in_default-can_begin.field-0
    (subst (CanBegin c.self.inside.gateway c.args.old.0 c.args.call.0) c.in_default-can_begin.is c.can_begin.ensures))

pub returns : goal.returns
returns c =
    subst (λ (v : ShardValue). CouldHappen v (next.Ended c.args.ended.now) (OfCall c.args.call (Begin c.args.old))) c.self.view_is
    (begun_possible _ c.self.invariant c.args.ended.now c.args.call.0 c.args.old.0 (sym (call_is c.args.ended.now) ∙ sym c.call.ensures ∙ c.if-call-old.false)
    c.in-Some.call_record.now (sym c.call_record.ensures ∙ ap (option_map (λ s. s.now)) c.in-Some.is)
    (ap (has_ended c.self.inside.script.now (agent_of c.in-Some.call_record.now.agent)) (sym c.association.ensures) ∙ sym c.has_ended.ensures ∙ c.if-not-has_ended.false)
    (subst (CanBegin c.self.inside.gateway c.args.old.0 c.args.call.0) c.in-Ok.is c.can_begin.ensures))

-- The call of the record has ended and the gateway lets the new one begin; or one of these isn't so.
use Rattle.std.proofs.Common.{◌∙◌, true, sym, ap, subst}
use Rattle.mg_model.specs.declared.events.CallEvent.TheVariants.{Begin}
use Rattle.mg_model.specs.World.{begin}
use Rattle.gateway.specs.Beginnings.{CanBegin}
use Rattle.agent.specs.AgentValue.{agent_of}
use Rattle.shards.proofs.NeverBegun.{never_begun, never_ended}
use Rattle.shards.proofs.Occurrences.{begins}
use Rattle.shards.specs.Beginnings.{has_ended}
use Rattle.shards.specs.CanOccur.{IsOccurrence, NeverOccurs}
use Rattle.shards.specs.Shards.{ShardValue}
use Rattle.shards.specs.CallTable.{record_in}
use Rattle.shards.proofs.shard.Shard.can_begin_on.Goals as goal

pub returns-then-not-has_ended : goal.returns-then-not-has_ended
returns-then-not-has_ended c = (
  subst (λ (v : ShardValue). NeverOccurs v (begin c.args.call.0 c.args.old.0)) c.self.view_is
      (never_ended _ c.args.call.0 c.args.old.0 c.args.call_record.now (ap (λ (v : ShardValue). record_in v.call_table c.args.old.0) c.self.view_is ∙ c.requires.held)
      (ap (has_ended c.self.inside.script.now (agent_of c.args.call_record.now.agent)) (sym c.association.ensures) ∙ sym c.has_ended.ensures ∙ c.if-not-has_ended.true)),
  tt,
)

pub returns-in_default : goal.returns-in_default
returns-in_default c = (
  subst (λ (v : ShardValue). NeverOccurs v (begin c.args.call.0 c.args.old.0)) c.self.view_is
      (never_begun _ c.args.call.0 c.args.old.0 c.in_default.field-0
      (subst (CanBegin c.self.inside.gateway c.args.old.0 c.args.call.0) c.in_default.is c.can_begin.ensures)),
  tt,
)

pub returns : goal.returns
returns c =
    subst (λ (v : ShardValue). IsOccurrence v c.args.call.0 (Begin c.args.old) true) c.self.view_is
    (begins _ c.self.invariant c.args.old.0 c.args.call_record.now (ap (λ (v : ShardValue). record_in v.call_table c.args.old.0) c.self.view_is ∙ c.requires.held) c.args.call.0
    (ap (has_ended c.self.inside.script.now (agent_of c.args.call_record.now.agent)) (sym c.association.ensures) ∙ sym c.has_ended.ensures ∙ c.if-not-has_ended.false)
    (subst (CanBegin c.self.inside.gateway c.args.old.0 c.args.call.0) c.in-Ok.is c.can_begin.ensures))

-- The agent is told of it, and it and the call that is handed in can take what was sent; or one of these isn't so.
use Rattle.std.proofs.Common.{◌∙◌, inl, sym, subst}
use Rattle.std.specs.Prelude.{option_map}
use Rattle.mg_model.specs.declared.events.Event.TheVariants.{OfCall}
use Rattle.shards.proofs.PossibleEvents.{none_own, step_shown_possible}
use Rattle.shards.proofs.TakenSteps.{not_told}
use Rattle.shards.specs.CouldHappen.{HasOwnRecord}
use Rattle.shards.specs.Shards.{ShardValue}
use Rattle.shards.specs.Stepping.{CannotOccur}
use Rattle.shards.proofs.shard.Shard.could_reach_agent.Goals as goal

pub returns-in_default : goal.returns-in_default
returns-in_default c =
    none_own c.args.self.now c.args.next.now c.args.call.0 c.args.event (inl c.requires)
    (subst (λ o. HasOwnRecord c.args.self.now c.args.next.now c.args.call.0 (option_map (λ s. s.now) o)) c.in_default.is c.own_record.ensures)

pub returns-then-not-is_told : goal.returns-then-not-is_told
returns-then-not-is_told c =
    inl (subst (λ (v : ShardValue). CannotOccur v c.args.next.now (OfCall c.args.call c.args.event)) c.self.view_is
    (not_told _ c.args.next.now c.args.call.0 c.args.event (sym c.is_told.ensures ∙ c.if-not-is_told.true)))

pub returns : goal.returns
returns c =
    step_shown_possible _ c.args.self.now c.self.view_is c.self.invariant c.args.next.now c.args.call.0 c.in-Some.call_record.now
    (subst (λ o. HasOwnRecord c.args.self.now c.args.next.now c.args.call.0 (option_map (λ s. s.now) o)) c.in-Some.is c.own_record.ensures)
    c.args.event c.requires (sym c.is_told.ensures ∙ c.if-not-is_told.false) c.could_step.result c.could_step.ensures

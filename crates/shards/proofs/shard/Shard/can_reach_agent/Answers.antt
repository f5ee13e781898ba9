-- The agent is told of it and can take what was sent; or one of these isn't so.
use Rattle.std.proofs.Common.{◌∙◌, false, sym, ap, subst}
use Rattle.shards.proofs.Occurrences.{taken_occurs, untold_never}
use Rattle.shards.specs.CanOccur.{IsOccurrence}
use Rattle.shards.specs.Shards.{ShardValue}
use Rattle.shards.specs.CallTable.{record_in}
use Rattle.shards.proofs.shard.Shard.can_reach_agent.Goals as goal

pub returns-then-not-is_told : goal.returns-then-not-is_told
returns-then-not-is_told c =
    subst (λ (v : ShardValue). IsOccurrence v c.args.call.0 c.args.event false) c.self.view_is
    (untold_never _ c.self.invariant c.args.call.0 c.args.call_record.now (ap (λ (v : ShardValue). record_in v.call_table c.args.call.0) c.self.view_is ∙ c.requires.held)
    c.args.event c.requires.agent (sym c.is_told.ensures ∙ c.if-not-is_told.true))

pub returns : goal.returns
returns c =
    subst (λ (v : ShardValue). IsOccurrence v c.args.call.0 c.args.event c.is_takeable.result) c.self.view_is
    (taken_occurs _ c.self.invariant c.args.call.0 c.args.call_record.now (ap (λ (v : ShardValue). record_in v.call_table c.args.call.0) c.self.view_is ∙ c.requires.held)
    c.args.event c.requires.agent (sym c.is_told.ensures ∙ c.if-not-is_told.false) c.is_takeable.result c.is_takeable.ensures)

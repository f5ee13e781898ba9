-- The record is that of the call that is handed in, if this is the call of the event.
use Rattle.std.proofs.Common.{◌∙◌, inl, sym, subst}
use Rattle.std.specs.Prelude.{option_map}
use Rattle.agent.specs.Calls.{value_of}
use Rattle.shards.proofs.PossibleEvents.{own_or_none}
use Rattle.shards.proofs.ValueSteps.{call_is}
use Rattle.shards.specs.CouldHappen.{HasOwnRecord}
use Rattle.shards.specs.Shards.{ShardValue}
use Rattle.shards.proofs.shard.Shard.own_record.Goals as goal

pub returns-then-call : goal.returns-then-call
returns-then-call c = inl (λ same. c.if-call.true (c.call.ensures ∙ call_is (value_of c.args.next.now) ∙ sym same))

pub returns : goal.returns
returns c =
    let v : ShardValue = record { script = c.self.inside.script.now; first = c.self.inside.first; stride = c.self.inside.stride; calls = c.self.inside.calls.items; gateway = c.self.inside.gateway; call_table = c.self.inside.call_table.entries; history = c.self.inside.history.items } in
    subst (λ (x : ShardValue). HasOwnRecord x c.args.next.now c.args.call.0 (option_map (λ s. s.now) c.call_record.result)) c.self.view_is
    (own_or_none v c.args.next.now c.args.call.0 (option_map (λ s. s.now) c.call_record.result)
    (sym (sym (call_is (value_of c.args.next.now)) ∙ sym c.call.ensures ∙ c.if-call.false)) c.call_record.ensures)

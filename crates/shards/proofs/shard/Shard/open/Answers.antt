-- Calls that were opened on a new gateway, of a checked script, are a shard in which nothing happened yet.
use Rattle.std.proofs.Common.{List, sym, subst}
use Rattle.mg_model.specs.declared.events.Event.{Event}
use Rattle.shards.proofs.OpenedShards.{shard_opened}
use Rattle.shards.specs.Opening.{AreOpenedOn}
use Rattle.shards.specs.Shards.{IsShard}
use Rattle.shards.specs.declared.opened.OpenedCall.{OpenedCall}
use Rattle.shards.proofs.shard.Shard.open.Goals as goal

pub invariant_of-shard : goal.invariant_of-shard
invariant_of-shard c =
    subst (λ (events : List Event). IsShard (record {
      script = c.script-script.result.now;
      first = c.args.first;
      stride = c.args.stride;
      calls = c.args.calls.items;
      gateway = c.in-Ok.opened.gateway;
      call_table = c.in-Ok.opened.call_table.entries;
      history = events;
    })) (sym c.new.ensures.items)
    (shard_opened c.script-script.result.now c.args.calls.items c.args.first c.args.stride c.in-Ok.opened.gateway c.in-Ok.opened.call_table.entries
    (subst (λ (calls : List OpenedCall). AreOpenedOn c.script-script.result.now calls c.args.first c.args.stride c.in-Ok.opened.gateway c.in-Ok.opened.call_table.entries)
    c.as_slice.ensures.value c.in-Ok.ensures.0)
    c.script-script.ensures.accepted c.script-script.ensures.few_commands c.script-script.ensures.safe c.requires.class c.requires.shards)

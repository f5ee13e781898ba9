-- The event of the record of a call is meant, and the record stays, but for how many notes are counted as settled.
use Rattle.std.proofs.Common.{◌∙◌, Option, sym, ap, subst}
use Rattle.mg_model.specs.declared.events.Event.{Event}
use Rattle.shards.proofs.MeantSteps.{entry_kept, entry_unchanged, is_meant, tied_entry}
use Rattle.shards.specs.Meaning.{IsMeant, event_of_entry}
use Rattle.shards.specs.Shards.{IsUnchanged, ShardValue}
use Rattle.shards.specs.CallTable.{record_in}
use Rattle.shards.proofs.shard.Shard.meaning.Goals as goal

pub event_of-requires : goal.event_of-requires
event_of-requires c = tied_entry _ c.args.call.0 c.self.invariant

pub invariant_of-self : goal.invariant_of-self
invariant_of-self c = entry_kept _ c.args.call.0 c.event_of.new.call_table.entries c.event_of.ensures.same c.event_of.ensures.others c.self.invariant

pub returns-clause-meant : goal.returns-clause-meant
returns-clause-meant c =
    subst (λ (told : Option Event). IsMeant c.args.self.now c.args.call.0 c.args.next.0 c.args.step.now told)
    (sym (c.event_of.ensures.means
    ∙ ap (λ association. event_of_entry (record_in c.self.inside.call_table.entries c.args.call.0) association c.args.next.0 c.args.step.now) c.association-association.ensures))
    (subst (λ (v : ShardValue). IsMeant v c.args.call.0 c.args.next.0 c.args.step.now
    (event_of_entry (record_in c.self.inside.call_table.entries c.args.call.0) c.self.inside.gateway.association c.args.next.0 c.args.step.now))
    c.self.view_is (is_meant _ c.args.call.0 c.args.next.0 c.args.step.now c.event_of.ensures.numbered))

pub returns-clause-unchanged : goal.returns-clause-unchanged
returns-clause-unchanged c =
    subst (λ (v : ShardValue). IsUnchanged v (record {
      script = c.self.inside.script.now;
      first = c.self.inside.first;
      stride = c.self.inside.stride;
      calls = c.self.inside.calls.items;
      gateway = c.self.inside.gateway;
      call_table = c.event_of.new.call_table.entries;
      history = c.self.inside.history.items;
    })) c.self.view_is
    (entry_unchanged _ c.args.call.0 c.event_of.new.call_table.entries c.event_of.ensures.same c.event_of.ensures.others)

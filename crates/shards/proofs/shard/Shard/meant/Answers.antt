-- What the record of a call tells is where the call stands, and the event that is meant; and the record stays, but for how many notes are counted as settled.
use Rattle.std.proofs.Common.{◌∙◌, Option, refl, sym, ap, subst}
use Rattle.std.specs.Prelude.{option_map}
use Rattle.mg_model.specs.declared.events.Event.{Event}
use Rattle.shards.proofs.MeantSteps.{entry_kept, entry_unchanged, is_meant, tied_entry, told_counted, told_event, told_stands}
use Rattle.shards.specs.Meaning.{IsMeant, event_of_entry}
use Rattle.shards.specs.Shards.{IsUnchanged, ShardValue}
use Rattle.shards.specs.Standings.{TellsStanding}
use Rattle.shards.specs.CallTable.{record_in}
use Rattle.shards.specs.declared.meant.Meant.{Meant}
use Rattle.shards.proofs.shard.Shard.meant.Goals as goal

pub meant_of-requires : goal.meant_of-requires
meant_of-requires c = tied_entry _ c.args.call.0 c.self.invariant

pub invariant_of-self : goal.invariant_of-self
invariant_of-self c = entry_kept _ c.args.call.0 c.meant_of.new.call_table.entries c.meant_of.ensures.same c.meant_of.ensures.others c.self.invariant

pub returns-clause-standing : goal.returns-clause-standing
returns-clause-standing c =
    subst (λ (v : ShardValue). TellsStanding v c.args.call.0 (option_map (λ (t : Meant). t.standing) c.meant_of.result)) c.self.view_is
    (told_stands _ c.args.call.0 _ c.args.next.0 c.args.step.now (record_in c.self.inside.call_table.entries c.args.call.0) refl c.meant_of.result
    c.meant_of.ensures.told)

pub returns-clause-meant : goal.returns-clause-meant
returns-clause-meant c =
    subst (λ (told : Option Event). IsMeant c.args.self.now c.args.call.0 c.args.next.0 c.args.step.now told)
    (sym (told_event c.args.self.now c.args.call.0 _ c.args.next.0 c.args.step.now (record_in c.self.inside.call_table.entries c.args.call.0) c.meant_of.result c.meant_of.ensures.told
    ∙ ap (λ association. event_of_entry (record_in c.self.inside.call_table.entries c.args.call.0) association c.args.next.0 c.args.step.now) c.association-association.ensures))
    (subst (λ (v : ShardValue). IsMeant v c.args.call.0 c.args.next.0 c.args.step.now
    (event_of_entry (record_in c.self.inside.call_table.entries c.args.call.0) c.self.inside.gateway.association c.args.next.0 c.args.step.now))
    c.self.view_is (is_meant _ c.args.call.0 c.args.next.0 c.args.step.now c.meant_of.ensures.numbered))

pub returns-clause-counted : goal.returns-clause-counted
returns-clause-counted c =
    told_counted (record {
      script = c.self.inside.script.now;
      first = c.self.inside.first;
      stride = c.self.inside.stride;
      calls = c.self.inside.calls.items;
      gateway = c.self.inside.gateway;
      call_table = c.self.inside.call_table.entries;
      history = c.self.inside.history.items;
    }) c.args.call.0 _ c.args.next.0 c.args.step.now (record_in c.self.inside.call_table.entries c.args.call.0) c.meant_of.result c.meant_of.ensures.told
    c.meant_of.new.call_table.entries c.meant_of.ensures.same

pub returns-clause-unchanged : goal.returns-clause-unchanged
returns-clause-unchanged c =
    subst (λ (v : ShardValue). IsUnchanged v (record {
      script = c.self.inside.script.now;
      first = c.self.inside.first;
      stride = c.self.inside.stride;
      calls = c.self.inside.calls.items;
      gateway = c.self.inside.gateway;
      call_table = c.meant_of.new.call_table.entries;
      history = c.self.inside.history.items;
    })) c.self.view_is
    (entry_unchanged _ c.args.call.0 c.meant_of.new.call_table.entries c.meant_of.ensures.same c.meant_of.ensures.others)

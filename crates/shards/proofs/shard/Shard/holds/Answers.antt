-- The record is that of the call that is handed in.
use Rattle.std.proofs.Common.{◌∙◌, List, length, inr, refl, sym, ap, subst}
use Rattle.std.specs.Prelude.{option_map}
use Rattle.mg_model.specs.declared.events.Event.{Event}
use Rattle.mg_model.specs.declared.events.Event.TheVariants.{OfCall}
use Rattle.agent.specs.Calls.{value_of}
use Rattle.shards.proofs.ValueSteps.{call_is}
use Rattle.shards.specs.Shards.{ShardValue}
use Rattle.shards.specs.CallTable.{record_in}
use Rattle.shards.specs.Stepping.{IsPossible, call_in}
use Rattle.shards.proofs.shard.Shard.holds.Goals as goal

pub returns-in_default : goal.returns-in_default
returns-in_default c =
    inr (ap (λ (v : ShardValue). record_in v.call_table (call_in c.args.next.now)) (sym c.self.view_is)
    ∙ ap (record_in c.self.inside.call_table.entries) (sym (call_is (value_of c.args.next.now)) ∙ sym c.call.ensures) ∙ sym c.call_record.ensures
    ∙ ap (option_map (λ s. s.now)) c.in_default.is)

pub returns-then-not-could_happen : goal.returns-then-not-could_happen
returns-then-not-could_happen c =
    subst (IsPossible c.args.self.now c.args.next.now (OfCall c.args.call c.args.event)) c.if-not-could_happen.true c.could_happen.ensures

pub returns-then-transcript-slot_count : goal.returns-then-transcript-slot_count
returns-then-transcript-slot_count c = (
  record {
    call_record = c.in-Some.call_record.now;
    held = ap (λ (v : ShardValue). record_in v.call_table (call_in c.args.next.now)) (sym c.self.view_is)
        ∙ ap (record_in c.self.inside.call_table.entries) (sym (call_is (value_of c.args.next.now)) ∙ sym c.call.ensures) ∙ sym c.call_record.ensures
        ∙ ap (option_map (λ s. s.now)) c.in-Some.is;
    counted = refl;
    differs = λ same. c.if-transcript-slot_count.true (ap (λ (events : List Event). length events) c.transcript.ensures ∙ same);
  },
  subst (IsPossible c.args.self.now c.args.next.now (OfCall c.args.call c.args.event)) c.if-not-could_happen.false c.could_happen.ensures,
)

pub returns : goal.returns
returns c = record {
  call_record = c.in-Some.call_record.now;
  held = ap (λ (v : ShardValue). record_in v.call_table (call_in c.args.next.now)) (sym c.self.view_is)
      ∙ ap (record_in c.self.inside.call_table.entries) (sym (call_is (value_of c.args.next.now)) ∙ sym c.call.ensures) ∙ sym c.call_record.ensures
      ∙ ap (option_map (λ s. s.now)) c.in-Some.is;
  agrees = ap (λ (events : List Event). length events) (sym c.transcript.ensures) ∙ c.if-transcript-slot_count.false;
}

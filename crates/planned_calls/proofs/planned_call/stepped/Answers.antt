-- The call that is handed in is the one that stands, with as many events as its record counts: so the shard holds it.
use Rattle.std.proofs.Common.{◌∙◌, List, length, sym, ap}
use Rattle.mg_model.specs.declared.events.Event.{Event}
use Rattle.agent.specs.Calls.{value_of}
use Rattle.shards.proofs.ValueSteps.{call_is}
use Rattle.shards.specs.CallTable.{record_in}
use Rattle.planned_calls.proofs.planned_call.stepped.Goals as goal

pub step_held-requires : goal.step_held-requires
step_held-requires c = record {
  call_record = c.requires.call_record;
  held = ap (record_in c.args.shard.now.call_table) (sym (call_is (value_of c.args.next)) ∙ sym c.call.ensures ∙ c.if-call-standing.false) ∙ c.requires.held;
  agrees = ap (λ (events : List Event). length events) (sym c.transcript.ensures) ∙ c.if-transcript-events.false ∙ c.requires.counted;
}

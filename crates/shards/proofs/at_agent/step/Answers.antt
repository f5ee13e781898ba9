-- What was awaited before is awaited no more, and both agents took the step.
use Rattle.std.proofs.Common.{◌≡◌, ◌∙◌, Option, Some, None, refl, sym, ap, subst}
use Rattle.std.specs.Prelude.{is_some, option_map}
use Rattle.mg_model.specs.Agent.{Agent}
use Rattle.agent.specs.AgentValue.{agent_of}
use Rattle.agent.specs.Steps.{outstanding}
use Rattle.shards.specs.Messages.{IsNextOver, Messages, sending}
use Rattle.shards.specs.CallRecords.{IsDelivered}
use Rattle.agent.specs.Advancing.{IsAdvanced}
use Rattle.shards.proofs.RecordLemmas.{next_over, same_phase, finished_phase}
use Rattle.shards.proofs.at_agent.step.Goals as goal

pub send-requires-clause-next : goal.send-requires-clause-next
send-requires-clause-next c =
    subst (λ (m : Messages). IsNextOver m c.finish-over.result) (sym c.room_to_send.ensures.same)
    (subst (IsNextOver c.args.call_record.now.messages.sent) (sym (c.finish-over.ensures.over ∙ ap outstanding before))
    (next_over c.args.call_record.now.messages.sent (agent_of c.args.call_record.now.agent).phase c.requires.tied.awaited))
  where
    before : (agent_of c.prepare.new.self).phase ≡ (agent_of c.args.call_record.now.agent).phase
    before = sym (same_phase (agent_of c.prepare.new.self) c.in-Ok-prepare.prepared) ∙ ap (λ (a : Agent). a.phase) c.in-Ok-prepare.ensures.1

pub returns : goal.returns
returns c = record {
  brought = c.in-Some.delivery;
  delivered = subst (IsDelivered c.args.call_record.now.messages.sent c.args.event) c.in-Some.is delivered;
  steps = c.in-Ok-prepare.ensures.0 ∙ ap Some (sym c.finish-over.ensures.finished);
  sent = c.send.ensures ∙ ap (λ (m : Messages). sending m c.finish-over.result c.is_some-sends.result) c.room_to_send.ensures.same
      ∙ ap (λ over. sending c.args.call_record.now.messages.sent over c.is_some-sends.result) (c.finish-over.ensures.over ∙ ap outstanding before)
      ∙ ap (λ sends. sending c.args.call_record.now.messages.sent (outstanding (agent_of c.args.call_record.now.agent).phase) sends) sends;
  events = refl;
  settled = refl;
  advanced = subst (IsAdvanced c.args.next c.in-Some.delivery c.advance-next.result.0) c.in_default-done.is c.advance-next.ensures;
}
  where
    before : (agent_of c.prepare.new.self).phase ≡ (agent_of c.args.call_record.now.agent).phase
    before = sym (same_phase (agent_of c.prepare.new.self) c.in-Ok-prepare.prepared) ∙ ap (λ (a : Agent). a.phase) c.in-Ok-prepare.ensures.1

    delivered : IsDelivered c.args.call_record.now.messages.sent c.args.event c.brought.result
    delivered = subst (λ (m : Messages). IsDelivered m c.args.event c.brought.result) c.room_to_send.ensures.same c.brought.ensures

    sends : c.is_some-sends.result ≡ is_some (outstanding (agent_of c.finish-over.new.self).phase)
    sends = c.is_some-sends.ensures ∙ told (λ r. r.now) c.request.result ∙ ap is_some (c.request.ensures
        ∙ ap outstanding (sym (ap (λ (a : Agent). a.phase) c.finish-over.ensures.finished ∙ finished_phase (agent_of c.prepare.new.self) c.in-Ok-prepare.prepared)))
      where
        told : {A B : Type 0} (f : A → B) (o : Option A) → is_some o ≡ is_some (option_map f o)
        told f None = refl
        told f (Some x) = refl

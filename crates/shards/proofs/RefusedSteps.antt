-- A step of an agent that is refused as not enabled can't happen in the world that is shown, or the call that is handed in can't take it.
use Rattle.std.proofs.Common.{◌≡◌, ◌∙◌, ◌==◌, ◌⊎◌, inl, inr, ℕ, true, Option, Some, None, sym, ap, subst}
use Rattle.std.proofs.lemmas.Bool.{eqb-true}
use Rattle.mg_model.proofs.Cases.{none_is_some, the_some, same_itself}
use Rattle.mg_names.specs.declared.identifiers.Assoc.{Assoc}
use Rattle.mg_model.specs.declared.events.CallEvent.{CallEvent}
use Rattle.mg_model.specs.declared.events.CallEvent.TheVariants as to_call
use Rattle.mg_model.specs.declared.events.Event.TheVariants.{OfCall}
use Rattle.mg_model.specs.Agent.{Agent, heard, noted, passed, replied, timed}
use Rattle.mg_model.specs.Messages.{Reply, SentNote}
use Rattle.mg_model.specs.Reports.{is_of}
use Rattle.mg_model.specs.Script.{Script}
use Rattle.mg_model.specs.Tables.{line_places}
use Rattle.mg_model.specs.World.{World, AgentSteps, Occurs}
use Rattle.mg_safety.proofs.Messages.NumberedWorlds.{IsNumbered}
use Rattle.gateway.specs.GatewayValue.{GatewayValue}
use Rattle.agent.specs.AgentValue.{agent_of}
use Rattle.agent.specs.Preparing.{stepped_by}
use Rattle.agent.specs.declared.call.Next.{Next}
use Rattle.agent.specs.declared.delivered.Delivery.{Delivery}
use Rattle.agent.specs.declared.delivered.Delivery.TheVariants as delivery
use Rattle.shards.proofs.MessageLemmas.{found_in, is_own, own_message}
use Rattle.shards.proofs.Refusals.{not_found}
use Rattle.shards.specs.Shows.{Shows, ShowsCall}
use Rattle.shards.specs.CallRecords.{CannotStep, IsDelivered}
use Rattle.shards.specs.Stepping.{IsAtAgent}
use Rattle.agent.specs.Advancing.{advancing}
use Rattle.shards.specs.declared.call_record.CallRecord.{CallRecord}

-- what was sent is brought, but the call that is handed in can't take it
abbrev pub ValueCannot : Next → CallEvent → CallRecord → Type 0
ValueCannot old event s = (brought : Delivery) × IsDelivered s.messages.sent event (Some brought) × (advancing old brought ≡ None)

module _ (script : Script) (w : World) (g : GatewayValue) (call_record : ℕ → Option CallRecord) (shows : Shows w g call_record) (numbered : IsNumbered w)
    (call : ℕ) (s : CallRecord) (there : call_record call ≡ Some s) where
  abbrev own : ShowsCall w call s
  own = shows.calls call s there

  no_step : (step : Agent → Option Agent) (after : World) → step (agent_of s.agent) ≡ None → AgentSteps w call step after → ⊥
  no_step step after none steps =
      none_is_some steps.agent (sym none ∙ ap step (the_some (agent_of s.agent) steps.before (sym own.agent ∙ steps.open_call)) ∙ steps.steps)

  pub not_stepped : (event : CallEvent) (brought : Delivery) (after : World) → IsDelivered s.messages.sent event (Some brought)
      → stepped_by script (agent_of s.agent) brought ≡ None → Occurs script w (OfCall (record { 0 = call }) event) after → ⊥
  not_stepped (to_call.OnLine line happens) brought after delivered none occurs = absurd delivered
  not_stepped (to_call.Execute number chosen) brought after delivered none occurs = absurd delivered
  not_stepped (to_call.Begin old) brought after delivered none occurs = absurd delivered
  not_stepped (to_call.Reply number) (delivery.Reply answer) after delivered none (other, sent, steps) =
      let found = found_in (λ (r : Reply). is_of call (Some number) r.call r.number) w.replies answer.now (own.replies (Some number) ∙ delivered) in
      let names = own_message call number answer.now.call answer.now.number found.1 in
      let same = numbered.replies.once answer.now other found.0 sent.0 (names.0 ∙ sym sent.1) (names.1 ∙ sym sent.2) in
      no_step (λ a. replied script a other) after (ap (replied script (agent_of s.agent)) (sym same) ∙ none) steps
  not_stepped (to_call.Reply number) delivery.Pass after delivered none occurs = absurd delivered
  not_stepped (to_call.Reply number) (delivery.Note note) after delivered none occurs = absurd delivered
  not_stepped (to_call.Reply number) delivery.Timer after delivered none occurs = absurd delivered
  not_stepped (to_call.Reply number) (delivery.Hear heard_of) after delivered none occurs = absurd delivered
  not_stepped to_call.Pass (delivery.Reply answer) after delivered none occurs = absurd delivered
  not_stepped to_call.Pass delivery.Pass after delivered none steps = no_step (passed script) after none steps
  not_stepped to_call.Pass (delivery.Note note) after delivered none occurs = absurd delivered
  not_stepped to_call.Pass delivery.Timer after delivered none occurs = absurd delivered
  not_stepped to_call.Pass (delivery.Hear heard_of) after delivered none occurs = absurd delivered
  not_stepped (to_call.Note number) (delivery.Reply answer) after delivered none occurs = absurd delivered
  not_stepped (to_call.Note number) delivery.Pass after delivered none occurs = absurd delivered
  not_stepped (to_call.Note number) (delivery.Note note) after delivered none (other, sent, steps) =
      let found = found_in (λ (n : SentNote). n.number == number) s.messages.sent.notes note.now delivered in
      let held = own.notes_sent note.now found.0 in
      let same = numbered.notes.once note.now other held.0 sent.0 (held.1 ∙ sym sent.1) (eqb-true note.now.number number found.1 ∙ sym sent.2) in
      no_step (λ a. noted script a (line_places script) other) after (ap (noted script (agent_of s.agent) (line_places script)) (sym same) ∙ none) steps
  not_stepped (to_call.Note number) delivery.Timer after delivered none occurs = absurd delivered
  not_stepped (to_call.Note number) (delivery.Hear heard_of) after delivered none occurs = absurd delivered
  not_stepped to_call.Timer (delivery.Reply answer) after delivered none occurs = absurd delivered
  not_stepped to_call.Timer delivery.Pass after delivered none occurs = absurd delivered
  not_stepped to_call.Timer (delivery.Note note) after delivered none occurs = absurd delivered
  not_stepped to_call.Timer delivery.Timer after delivered none steps = no_step (timed script) after none steps
  not_stepped to_call.Timer (delivery.Hear heard_of) after delivered none occurs = absurd delivered
  not_stepped (to_call.Hear association) (delivery.Reply answer) after delivered none occurs = absurd delivered
  not_stepped (to_call.Hear association) delivery.Pass after delivered none occurs = absurd delivered
  not_stepped (to_call.Hear association) (delivery.Note note) after delivered none occurs = absurd delivered
  not_stepped (to_call.Hear association) delivery.Timer after delivered none occurs = absurd delivered
  not_stepped (to_call.Hear association) (delivery.Hear heard_of) after delivered none (told, steps) =
      no_step (λ a. heard script a association.0) after (ap (λ (n : Assoc). heard script (agent_of s.agent) n.0) (sym delivered) ∙ none) steps

  pub not_brought : (event : CallEvent) (after : World) → IsAtAgent event → IsDelivered s.messages.sent event None
      → Occurs script w (OfCall (record { 0 = call }) event) after → ⊥
  not_brought (to_call.OnLine line happens) after of_agent none occurs = of_agent
  not_brought (to_call.Execute number chosen) after of_agent none occurs = of_agent
  not_brought (to_call.Begin old) after of_agent none occurs = of_agent
  not_brought (to_call.Reply number) after of_agent none (answer, sent, steps) =
      not_found (λ (r : Reply). is_of call (Some number) r.call r.number) w.replies answer (own.replies (Some number) ∙ none) sent.0
      (ap (λ c. is_of call (Some number) c answer.number) sent.1 ∙ is_own call (Some number) answer.number
      ∙ subst (λ n. (answer.number == n) ≡ true) sent.2 (same_itself answer.number))
  not_brought (to_call.Note number) after of_agent none (note, sent, steps) =
      not_found (λ (n : SentNote). n.number == number) s.messages.sent.notes note none (own.notes_kept note sent.0 sent.1)
      (subst (λ n. (note.number == n) ≡ true) sent.2 (same_itself note.number))
  not_brought to_call.Pass after of_agent none occurs = none
  not_brought to_call.Timer after of_agent none occurs = none
  not_brought (to_call.Hear association) after of_agent none occurs = none

  pub cannot_step : (old : Next) (event : CallEvent) → IsAtAgent event → CannotStep script old event s
      → ((after : World) → Occurs script w (OfCall (record { 0 = call }) event) after → ⊥) ⊎ ValueCannot old event s
  cannot_step old event of_agent (inl none) = inl (λ after. not_brought event after of_agent none)
  cannot_step old event of_agent (inr (brought, delivered, inl none)) = inl (λ after. not_stepped event brought after delivered none)
  cannot_step old event of_agent (inr (brought, delivered, inr none)) = inr (brought, delivered, none)

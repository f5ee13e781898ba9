-- The call that is handed in: where it takes a step it goes where the event leads, and where it can't, the event leads it nowhere.
use Rattle.std.proofs.Common.{◌≡◌, ◌∙◌, ◌==◌, Bool, true, false, ℕ, Option, Some, None, if◌then◌else◌, refl, sym, ap}
use Rattle.std.specs.Borrow.{Bor}
use Rattle.std.specs.List.{find}
use Rattle.std.proofs.lemmas.Bool.{eqb-true}
use Rattle.mg_model.proofs.Cases.{none_is_some}
use Rattle.mg_names.specs.declared.identifiers.Assoc.{Assoc}
use Rattle.mg_model.specs.declared.events.CallEvent.{CallEvent}
use Rattle.mg_model.specs.declared.events.CallEvent.TheVariants as to_call
use Rattle.mg_model.specs.declared.events.Event.TheVariants.{OfCall}
use Rattle.mg_model.specs.Agent.{Agent, noted, replied}
use Rattle.mg_model.specs.Messages.{Reply, SentNote}
use Rattle.mg_model.specs.Reports.{is_of}
use Rattle.mg_model.specs.Tables.{line_places}
use Rattle.mg_model.specs.World.{World, IsNoteOf, IsReplyOf}
use Rattle.mg_safety.proofs.Messages.NumberedWorlds.{IsNumbered}
use Rattle.agent.specs.AgentValue.{agent_of}
use Rattle.agent.specs.CallValue.{CallValue, Kind, rests, waits, has_ended}
use Rattle.agent.specs.Calls.{value_of, variant_of}
use Rattle.agent.specs.Preparing.{stepped_by}
use Rattle.agent.specs.declared.call.Next.{Next}
use Rattle.agent.specs.declared.delivered.Delivery.{Delivery}
use Rattle.agent.specs.declared.delivered.Delivery.TheVariants as delivery
use Rattle.shards.proofs.Delivered.{of_delivered}
use Rattle.shards.proofs.MessageLemmas.{found_in, own_message}
use Rattle.shards.specs.Shows.{ShowsCall}
use Rattle.shards.specs.CallRecords.{IsDelivered}
use Rattle.shards.specs.Stepping.{ValueGoes, call_in, is_at_rest, is_waiting}
use Rattle.agent.specs.Advancing.{advancing, event_of, takes}
use Rattle.shards.specs.declared.call_record.CallRecord.{CallRecord}

-- ---- which kind takes what

takes_reply : (kind : Kind) (answer : Bor Reply) → takes kind (delivery.Reply answer) ≡ is_waiting kind
takes_reply waits answer = refl
takes_reply rests answer = refl
takes_reply has_ended answer = refl

takes_pass : (kind : Kind) → takes kind delivery.Pass ≡ is_waiting kind
takes_pass waits = refl
takes_pass rests = refl
takes_pass has_ended = refl

takes_note : (kind : Kind) (note : Bor SentNote) → takes kind (delivery.Note note) ≡ is_at_rest kind
takes_note waits note = refl
takes_note rests note = refl
takes_note has_ended note = refl

takes_timer : (kind : Kind) → takes kind delivery.Timer ≡ is_at_rest kind
takes_timer waits = refl
takes_timer rests = refl
takes_timer has_ended = refl

takes_hear : (kind : Kind) (association : Assoc) → takes kind (delivery.Hear association) ≡ true
takes_hear waits association = refl
takes_hear rests association = refl
takes_hear has_ended association = refl

-- ---- a step that is taken, and one that can't be

abbrev stepped : Next → Delivery → Option Agent
stepped next brought = stepped_by (value_of next).script (agent_of (value_of next).agent) brought

taken : (next : Next) (brought : Delivery) (a : Agent) → advancing next brought ≡ Some a → (takes (variant_of next) brought ≡ true) × (stepped next brought ≡ Some a)
taken next brought a is = by_test (takes (variant_of next) brought) refl is
  where
    by_test : (test : Bool) → takes (variant_of next) brought ≡ test → (if test then stepped next brought else None) ≡ Some a
        → (takes (variant_of next) brought ≡ true) × (stepped next brought ≡ Some a)
    by_test true may there = (may, there)
    by_test false may there = absurd (none_is_some a there)

not_taken : (next : Next) (brought : Delivery) → advancing next brought ≡ None → takes (variant_of next) brought ≡ true → stepped next brought ≡ None
not_taken next brought none may = sym (ap (λ test. if test then stepped next brought else None) may) ∙ none

module _ (w : World) (call : ℕ) (s : CallRecord) (shows : ShowsCall w call s) (next : Next) (own : call ≡ call_in next) where
  abbrev kind : Kind
  kind = variant_of next

  abbrev value : CallValue
  value = value_of next

  sent_reply : (number : ℕ) (answer : Bor Reply) → find (λ (r : Reply). is_of call (Some number) r.call r.number) w.replies ≡ Some answer.now
      → IsReplyOf w call number answer.now
  sent_reply number answer is =
      let found = found_in (λ (r : Reply). is_of call (Some number) r.call r.number) w.replies answer.now is in
      let names = own_message call number answer.now.call answer.now.number found.1 in
      (found.0, names.0, names.1)

  sent_note : (number : ℕ) (note : Bor SentNote) → find (λ (n : SentNote). n.number == number) s.messages.sent.notes ≡ Some note.now
      → IsNoteOf w call number note.now
  sent_note number note is =
      let found = found_in (λ (n : SentNote). n.number == number) s.messages.sent.notes note.now is in
      let held = shows.notes_sent note.now found.0 in
      (held.0, held.1, eqb-true note.now.number number found.1)

  -- what is brought is named by the event
  pub event_is : (event : CallEvent) (brought : Delivery) → IsDelivered s.messages.sent event (Some brought) → event_of brought ≡ event
  event_is event brought delivered =
      of_delivered s.messages.sent (λ (e : CallEvent) (b : Delivery). event_of b ≡ e) (record {
        of_reply = λ number answer is. ap to_call.Reply (sent_reply number answer (shows.replies (Some number) ∙ is)).2;
        of_pass = refl;
        of_note = λ number note is. ap to_call.Note (sent_note number note is).2;
        of_timer = refl;
        of_hear = λ association. refl;
      }) event brought delivered

  abbrev GoesBy : Agent → CallEvent → Delivery → Type 0
  GoesBy a event brought = takes kind brought ≡ true → stepped next brought ≡ Some a → ValueGoes w next (OfCall (record { 0 = call }) event) a

  pub value_goes : (event : CallEvent) (brought : Delivery) (a : Agent) → IsDelivered s.messages.sent event (Some brought) → advancing next brought ≡ Some a
      → ValueGoes w next (OfCall (record { 0 = call }) event) a
  value_goes event brought a delivered advances =
      let both = taken next brought a advances in
      of_delivered s.messages.sent (GoesBy a) (record {
        of_reply = λ number answer is may steps. (sym (takes_reply kind answer) ∙ may, (own, (answer.now, sent_reply number answer (shows.replies (Some number) ∙ is), steps)));
        of_pass = λ may steps. (sym (takes_pass kind) ∙ may, (own, steps));
        of_note = λ number note is may steps. (sym (takes_note kind note) ∙ may, (own, (note.now, sent_note number note is, steps)));
        of_timer = λ may steps. (sym (takes_timer kind) ∙ may, (own, steps));
        of_hear = λ association may steps. (refl, (own, steps));
      }) event brought delivered both.0 both.1

  module _ (numbered : IsNumbered w) where
    abbrev GoesNot : Agent → CallEvent → Delivery → Type 0
    GoesNot a event brought = advancing next brought ≡ None → ValueGoes w next (OfCall (record { 0 = call }) event) a → ⊥

    refused : (brought : Delivery) (a : Agent) → advancing next brought ≡ None → takes kind brought ≡ true → stepped next brought ≡ Some a → ⊥
    refused brought a none may steps = none_is_some a (sym (not_taken next brought none may) ∙ steps)

    pub value_cannot : (event : CallEvent) (brought : Delivery) (a : Agent) → IsDelivered s.messages.sent event (Some brought) → advancing next brought ≡ None
        → ValueGoes w next (OfCall (record { 0 = call }) event) a → ⊥
    value_cannot event brought a delivered none goes =
        of_delivered s.messages.sent (GoesNot a) (record {
          of_reply = λ number answer is none goes.
              let sent = sent_reply number answer (shows.replies (Some number) ∙ is) in
              let other = goes.1.1.1 in
              let same = numbered.replies.once answer.now goes.1.1.0 sent.0 other.0 (sent.1 ∙ sym other.1) (sent.2 ∙ sym other.2) in
              refused (delivery.Reply answer) a none (takes_reply kind answer ∙ goes.0) (ap (replied value.script (agent_of value.agent)) same ∙ goes.1.1.2);
          of_pass = λ none goes. refused delivery.Pass a none (takes_pass kind ∙ goes.0) goes.1.1;
          of_note = λ number note is none goes.
              let sent = sent_note number note is in
              let other = goes.1.1.1 in
              let same = numbered.notes.once note.now goes.1.1.0 sent.0 other.0 (sent.1 ∙ sym other.1) (sent.2 ∙ sym other.2) in
              refused (delivery.Note note) a none (takes_note kind note ∙ goes.0) (ap (noted value.script (agent_of value.agent) (line_places value.script)) same ∙ goes.1.1.2);
          of_timer = λ none goes. refused delivery.Timer a none (takes_timer kind ∙ goes.0) goes.1.1;
          of_hear = λ association none goes. refused (delivery.Hear association) a none (takes_hear kind association) goes.1.1;
        }) event brought delivered none goes

-- the number of a call, read off its agent
pub call_is : (handed : CallValue) → (agent_of handed.agent).call ≡ handed.agent.call
unfolding agent_of
call_is handed = refl

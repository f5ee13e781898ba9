-- A step of the agent in a record is an event of the world that the records show, and they show the world after it.
use Rattle.std.proofs.Common.{◌≡◌, ◌∙◌, ◌+◌, ◌==◌, ℕ, Bool, length, Option, Some, reverse, refl, sym, ap, subst, arith}
use Rattle.std.specs.Prelude.{Contains, is_some}
use Rattle.std.specs.List.{find}
use Rattle.std.specs.Option.{option_or}
use Rattle.std.proofs.lemmas.Bool.{eqb-true}
use Rattle.std.proofs.lemmas.List.{length-append}
use Rattle.std.proofs.lemmas.List.Folds.{find-append}
use Rattle.mg_model.proofs.Cases.{at_one}
use Rattle.mg_names.specs.declared.identifiers.Assoc.{Assoc}
use Rattle.mg_model.specs.declared.events.CallEvent.{CallEvent}
use Rattle.mg_model.specs.declared.events.CallEvent.TheVariants as to_call
use Rattle.mg_model.specs.declared.events.Event.TheVariants.{OfCall}
use Rattle.mg_model.specs.Agent.{Agent, Phase, replied, passed, noted, timed, heard}
use Rattle.mg_model.specs.Messages.{Request, Reply, SentNote}
use Rattle.mg_model.specs.Reports.{is_of}
use Rattle.mg_model.specs.Script.{Script}
use Rattle.mg_model.specs.Tables.{line_places}
use Rattle.mg_model.specs.World.{World, AgentSteps, Occurs, agent_steps, sent_in}
use Rattle.mg_safety.proofs.Messages.AgentNumbers.{GivesNext, GoesOn, heard_next, noted_next, passed_next, replied_next, timed_next}
use Rattle.mg_safety.proofs.Messages.NumberedWorlds.{IsNumbered}
use Rattle.agent.specs.AgentValue.{agent_of}
use Rattle.agent.specs.Preparing.{stepped_by}
use Rattle.agent.specs.Steps.{outstanding}
use Rattle.agent.specs.declared.delivered.Delivery.{Delivery}
use Rattle.agent.specs.declared.delivered.Delivery.TheVariants as delivery
use Rattle.shards.specs.Messages.{AreNumberedFrom, Messages, fits, listed, reply_for, request_numbers, sending}
use Rattle.shards.specs.Shows.{IsTold, ShowsCall}
use Rattle.shards.specs.CallRecords.{AreSettled, IsDelivered, IsTied, request_in}
use Rattle.shards.specs.declared.call_record.CallRecord.{CallRecord}
use Rattle.shards.proofs.MessageLemmas.{found_in, is_own, length_over, length_places, over_first, own_message, places_for, same_found, same_replies}
use Rattle.shards.proofs.SettledNotes.{settled_after}
use Rattle.shards.proofs.RecordLemmas.{next_over}
use Rattle.shards.proofs.NumberLemmas.{numbered_on}

pub stepped_next : (script : Script) (a : Agent) (brought : Delivery) → GivesNext a.call a.next a.lines (stepped_by script a brought)
stepped_next script a (delivery.Reply reply) = replied_next script a reply.now
stepped_next script a delivery.Pass = passed_next script a
stepped_next script a (delivery.Note note) = noted_next script a (line_places script) note.now
stepped_next script a delivery.Timer = timed_next script a
stepped_next script a (delivery.Hear association) = heard_next script a association.0

module _ (script : Script) (w : World) (call : ℕ) (s t : CallRecord) (shows : ShowsCall w call s) where
  abbrev before : Agent
  before = agent_of s.agent

  abbrev after : World
  after = agent_steps w call (agent_of t.agent)

  -- ---- it is an event

  agent_takes : (step : Agent → Option Agent) → step before ≡ Some (agent_of t.agent) → AgentSteps w call step after
  agent_takes step is = record { before = before; agent = agent_of t.agent; open_call = shows.agent; steps = is; after_is = refl }

  pub is_event : (event : CallEvent) (brought : Delivery) → IsTold w event → IsDelivered s.messages.sent event (Some brought)
      → stepped_by script before brought ≡ Some (agent_of t.agent) → Occurs script w (OfCall (record { 0 = call }) event) after
  is_event (to_call.OnLine line happens) brought told delivered steps = absurd delivered
  is_event (to_call.Execute number chosen) brought told delivered steps = absurd delivered
  is_event (to_call.Reply number) (delivery.Reply answer) told delivered steps =
      let found = found_in (λ (r : Reply). is_of call (Some number) r.call r.number) w.replies answer.now (shows.replies (Some number) ∙ delivered) in
      let own = own_message call number answer.now.call answer.now.number found.1 in
      (answer.now, (found.0, own.0, own.1), agent_takes (λ a. replied script a answer.now) steps)
  is_event (to_call.Reply number) delivery.Pass told delivered steps = absurd delivered
  is_event (to_call.Reply number) (delivery.Note note) told delivered steps = absurd delivered
  is_event (to_call.Reply number) delivery.Timer told delivered steps = absurd delivered
  is_event (to_call.Reply number) (delivery.Hear heard_of) told delivered steps = absurd delivered
  is_event to_call.Pass (delivery.Reply answer) told delivered steps = absurd delivered
  is_event to_call.Pass delivery.Pass told delivered steps = agent_takes (passed script) steps
  is_event to_call.Pass (delivery.Note note) told delivered steps = absurd delivered
  is_event to_call.Pass delivery.Timer told delivered steps = absurd delivered
  is_event to_call.Pass (delivery.Hear heard_of) told delivered steps = absurd delivered
  is_event (to_call.Note number) (delivery.Reply answer) told delivered steps = absurd delivered
  is_event (to_call.Note number) delivery.Pass told delivered steps = absurd delivered
  is_event (to_call.Note number) (delivery.Note note) told delivered steps =
      let found = found_in (λ (n : SentNote). n.number == number) s.messages.sent.notes note.now delivered in
      let sent = shows.notes_sent note.now found.0 in
      (note.now, (sent.0, sent.1, eqb-true note.now.number number found.1), agent_takes (λ a. noted script a (line_places script) note.now) steps)
  is_event (to_call.Note number) delivery.Timer told delivered steps = absurd delivered
  is_event (to_call.Note number) (delivery.Hear heard_of) told delivered steps = absurd delivered
  is_event to_call.Timer (delivery.Reply answer) told delivered steps = absurd delivered
  is_event to_call.Timer delivery.Pass told delivered steps = absurd delivered
  is_event to_call.Timer (delivery.Note note) told delivered steps = absurd delivered
  is_event to_call.Timer delivery.Timer told delivered steps = agent_takes (timed script) steps
  is_event to_call.Timer (delivery.Hear heard_of) told delivered steps = absurd delivered
  is_event (to_call.Begin old) brought told delivered steps = absurd delivered
  is_event (to_call.Hear association) (delivery.Reply answer) told delivered steps = absurd delivered
  is_event (to_call.Hear association) delivery.Pass told delivered steps = absurd delivered
  is_event (to_call.Hear association) (delivery.Note note) told delivered steps = absurd delivered
  is_event (to_call.Hear association) delivery.Timer told delivered steps = absurd delivered
  is_event (to_call.Hear association) (delivery.Hear heard_of) told delivered steps =
      (told, agent_takes (λ a. heard script a association.0) (ap (λ (n : Assoc). heard script before n.0) (sym delivered) ∙ steps))

  -- ---- and the record shows its call after it

  module _ (numbered : IsNumbered w) (goes : GoesOn before.call before.next before.lines (agent_of t.agent))
      (sent : t.messages.sent ≡ sending s.messages.sent (outstanding before.phase) (is_some (outstanding (agent_of t.agent).phase)))
      (brought : Delivery) (steps : stepped_by script before brought ≡ Some (agent_of t.agent)) (settled : t.settled ≡ s.settled) where
    abbrev phase : Phase
    phase = (agent_of t.agent).phase

    of_call : before.call ≡ call
    of_call = numbered.agents call before shows.agent

    sent_by : (r : Request) → Contains (sent_in phase) r → r.call ≡ call
    sent_by r among = (goes.sent r among).0 ∙ of_call

    abbrev of_world : Option ℕ → Request → Bool
    of_world which r = is_of call which r.call r.number

    abbrev by_number : Option ℕ → Request → Bool
    by_number which r = fits which r.number

    earlier : (which : Option ℕ) → request_in s which ≡ find (by_number which) (reverse t.messages.sent.requests)
    earlier which = ap (find (by_number which)) (sym (over_first before.phase s.messages.sent.requests) ∙ ap (λ (m : Messages). reverse m.requests) (sym sent))

    requests_after : (which : Option ℕ) → find (λ (r : Request). is_of call which r.call r.number) after.requests ≡ request_in t which
    requests_after which =
        find-append (of_world which) (sent_in phase) w.requests
        ∙ ap (λ o. option_or o (find (of_world which) w.requests))
        (same_found (of_world which) (by_number which) (sent_in phase) (λ r among. ap (λ c. is_of call which c r.number) (sent_by r among) ∙ is_own call which r.number))
        ∙ ap (option_or (find (by_number which) (sent_in phase))) (shows.requests which ∙ earlier which)
        ∙ sym (find-append (by_number which) (sent_in phase) (reverse t.messages.sent.requests))

    places : length t.messages.sent.replies ≡ length s.messages.sent.replies + length (sent_in phase)
    places = ap (λ (m : Messages). length m.replies) sent ∙ length-append s.messages.sent.replies (places_for (is_some (outstanding phase)))
        ∙ ap (λ n. length s.messages.sent.replies + n) (length_places phase)

    kept : length t.messages.sent.requests ≡ length s.messages.sent.replies
    kept = ap (λ (m : Messages). length m.requests) sent ∙ length-append s.messages.sent.requests (listed (outstanding before.phase))
        ∙ ap (λ n. length s.messages.sent.requests + n) (length_over before.phase) ∙ sym shows.tied.places

    same_first : t.messages.sent.first ≡ s.messages.sent.first
    same_first = ap (λ (m : Messages). m.first) sent

    tied_after : IsTied t
    tied_after = record {
      numbered = subst (λ (m : Messages). AreNumberedFrom m.first (request_numbers m.requests)) (sym sent)
          (numbered_on (λ (r : Request). r.number) s.messages.sent.first s.messages.sent.requests (listed (outstanding before.phase)) shows.tied.numbered
          (next_over s.messages.sent before.phase shows.tied.awaited));
      places = omega (arith, places, kept);
      awaited = λ r among.
          let number : r.number ≡ before.next = (goes.sent r among).1.0 in
          let next : before.next ≡ s.messages.sent.first + length s.messages.sent.replies = shows.tied.next in
          omega (arith, number, next, kept, same_first);
      next = let next : before.next ≡ s.messages.sent.first + length s.messages.sent.replies = shows.tied.next in
          let goes_on : (agent_of t.agent).next ≡ before.next + length (sent_in phase) = goes.next_is in
          omega (arith, next, goes_on, places, same_first);
      settled = subst (AreSettled (agent_of t.agent) t.messages.sent.notes) (sym settled)
          (subst (λ (m : Messages). AreSettled (agent_of t.agent) m.notes s.settled) (sym sent)
          (settled_after script before (agent_of t.agent) brought s.messages.sent.notes s.settled steps shows.tied.settled));
    }

    pub shows_after : ShowsCall after call t
    shows_after = record {
      agent = at_one call (Some (agent_of t.agent)) (w.agent call);
      requests = requests_after;
      replies = λ which. shows.replies which
          ∙ sym (same_replies s.messages.sent (outstanding before.phase) (is_some (outstanding phase)) which) ∙ ap (λ (m : Messages). reply_for m which) (sym sent);
      notes_sent = λ n among. shows.notes_sent n (subst (λ (m : Messages). Contains m.notes n) sent among);
      notes_kept = λ n among of_it. subst (λ (m : Messages). Contains m.notes n) (sym sent) (shows.notes_kept n among of_it);
      counted = shows.counted ∙ ap (λ (m : Messages). length m.notes) (sym sent);
      tied = tied_after;
    }

-- How many messages were sent: an event sends at most sixteen notes of each call, and one request.
use Rattle.std.proofs.Common.{◌≡◌, ◌∙◌, ◌+◌, ◌*◌, ◌≤◌, ◌==◌, ℕ, suc, List, [], ◌∷◌, length, Contains, Option, Some, None, if◌then◌else◌, refl, sym, ap, subst, arith, inl, inr}
use Rattle.std.proofs.lemmas.List.Elements.{Contains-append_cases}
use Rattle.mg_model.proofs.Cases.{by_test, the_some}
use Rattle.mg_model.proofs.Single.{nothing_in}
use Rattle.mg_model.specs.declared.events.CallEvent.{CallEvent}
use Rattle.mg_model.specs.declared.events.CallEvent.TheVariants as to_call
use Rattle.mg_model.specs.declared.events.Event.{Event}
use Rattle.mg_model.specs.declared.events.Event.TheVariants.{OfCall, Restart}
use Rattle.mg_model.specs.declared.failures.ChosenRefusal.{ChosenRefusal}
use Rattle.mg_model.specs.declared.line_events.LineEvent.{LineEvent}
use Rattle.mg_model.specs.Accepted.{HasFewCommands, most_commands}
use Rattle.mg_model.specs.Agent.{Agent, Phase, awaits_reply, heard, noted, opened, passed, replied, timed}
use Rattle.mg_model.specs.Gateway.{CallLink, Gateway, notes_from, reply_of}
use Rattle.mg_model.specs.LineEvents.{Note}
use Rattle.mg_model.specs.Messages.{Request, SentNote}
use Rattle.mg_model.specs.Script.{Script}
use Rattle.mg_model.specs.Tables.{line_places}
use Rattle.mg_model.specs.World.{AgentSteps, Begins, Executes, IsOpening, LineOccurs, Occurs, OccursTo, Opened, Runs, World, sent_in}
use Rattle.gateway.proofs.NoteLemmas.{notes_at_most}
use Rattle.mg_merge.proofs.Identifiers.FewCommands.{GivesShort, IsShort, heard_short, noted_short, passed_short, replied_short, timed_short}
use Rattle.mg_safety.proofs.Agents.AgentSteps.{stepped_agent}
use Rattle.mg_safety.proofs.Events.Handover.{agent_from}
use Rattle.mg_safety.proofs.Messages.AgentNumbers.{GivesNext, heard_next, noted_next, passed_next, replied_next, timed_next}

pub record HasSent (w : World) (count : ℕ) : Type 0 where
  pub requests : (request : Request) → Contains w.requests request → IsShort request
  pub notes : (call : ℕ) → (w.gateway.link call).notes ≤ most_commands * count
  pub next : (call : ℕ) (a : Agent) → w.agent call ≡ Some a → a.next ≤ count + 1

-- ---- what stays

abbrev nothing_kept : CallLink
nothing_kept = record { last = None; notes = 0 }

one_request : (phase : Phase) → length (sent_in phase) ≤ 1
one_request (awaits_reply request) = omega arith
one_request phase = omega arith

one_note : (g : Gateway) (call line : ℕ) (note : Option Note) → length (notes_from g call line note) ≤ 1
one_note g call line None = omega arith
one_note g call line (Some note) = omega arith

module _ (script : Script) (few : HasFewCommands script) where
  -- where agents and requests stay
  agents_stay : (w after : World) (count : ℕ) → HasSent w count → after.requests ≡ w.requests → after.agent ≡ w.agent
      → ((call : ℕ) → (after.gateway.link call).notes ≤ most_commands * (count + 1)) → HasSent after (count + 1)
  agents_stay w after count sent requests agents notes = record {
    requests = subst (λ (xs : List Request). (request : Request) → Contains xs request → IsShort request) (sym requests) sent.requests;
    notes = notes;
    next = λ call a there.
        let before = sent.next call a (ap (λ (agent : ℕ → Option Agent). agent call) (sym agents) ∙ there) in
        omega (arith, before);
  }

  -- where the gateway does
  no_note : (w after : World) (count : ℕ) → HasSent w count → after.gateway ≡ w.gateway → (call : ℕ)
      → (after.gateway.link call).notes ≤ most_commands * (count + 1)
  no_note w after count sent same call =
      subst (λ (g : Gateway). (g.link call).notes ≤ most_commands * (count + 1)) (sym same)
      (let before = sent.notes call in omega (arith, before))

  -- where one call has some notes more
  some_notes : (w after : World) (count : ℕ) → HasSent w count → (of more : ℕ) (link : CallLink) → link.notes ≡ (w.gateway.link of).notes + more
      → more ≤ most_commands → after.gateway.link ≡ (λ (c : ℕ). if c == of then link else w.gateway.link c) → (call : ℕ)
      → (after.gateway.link call).notes ≤ most_commands * (count + 1)
  some_notes w after count sent of more link notes few_more links call =
      subst (λ (l : CallLink). l.notes ≤ most_commands * (count + 1)) (sym (ap (λ (all : ℕ → CallLink). all call) links))
      (by_test (λ (l : CallLink). l.notes ≤ most_commands * (count + 1)) link (w.gateway.link call) (call == of)
      (λ here. let before = sent.notes of in omega (arith, before, notes, few_more)) (λ other. let before = sent.notes call in omega (arith, before)))

  -- ---- a step of an agent

  agent_sent : (w after : World) (count call : ℕ) (step : Agent → Option Agent) → ((a : Agent) → GivesShort (step a))
      → ((a : Agent) → GivesNext a.call a.next a.lines (step a)) → HasSent w count → AgentSteps w call step after → HasSent after (count + 1)
  agent_sent w after count call step short next sent x = subst (λ (v : World). HasSent v (count + 1)) (sym x.after_is) (record {
    requests = λ request there. elim (Contains-append_cases (sent_in x.agent.phase) w.requests request there) [
      | inl new ↦ short x.before x.agent x.steps request new
      | inr before ↦ sent.requests request before
    ];
    notes = λ c. let before = sent.notes c in omega (arith, before);
    next = λ c a there. elim (stepped_agent w call x.agent c a there) [
      | inl here ↦ subst (λ (b : Agent). b.next ≤ count + 1 + 1) here.1
          (let goes = (next x.before x.agent x.steps).next_is in
          let one = one_request x.agent.phase in
          let before = sent.next call x.before x.open_call in
          omega (arith, goes, one, before))
      | inr other ↦ (let before = sent.next c a other.1 in omega (arith, before))
    ];
  })

  -- ---- events at the gateway

  line_sent : (w after : World) (count line : ℕ) (event : LineEvent) → HasSent w count → LineOccurs w line event after → HasSent after (count + 1)
  line_sent w after count line event sent x =
      agents_stay w after count sent (ap (λ (v : World). v.requests) x.after_is) (ap (λ (v : World). v.agent) x.after_is)
      (some_notes w after count sent x.happens.call (length x.sent)
      (record { last = (w.gateway.link x.happens.call).last; notes = (w.gateway.link x.happens.call).notes + length x.sent }) refl few_notes
      (ap (λ (v : World). v.gateway.link) x.after_is ∙ ap (λ (g : Gateway). g.link) x.happens.after_is))
    where
      one : length x.sent ≤ 1
      one = subst (λ (notes : List SentNote). length notes ≤ 1) (sym x.happens.notes_are)
          (one_note w.gateway x.happens.call line x.happens.outcome.note)

      few_notes : length x.sent ≤ most_commands
      few_notes = let most = one in omega (arith, most)

  executed_sent : (w after : World) (count : ℕ) (request : Request) (chosen : Option ChosenRefusal) → HasSent w count → IsShort request
      → Executes w request chosen after → HasSent after (count + 1)
  executed_sent w after count request chosen sent short (inl x) =
      let e = x.executed in
      let most = notes_at_most request.number chosen _ 0 request.commands e.end e.failure e.runs in
      agents_stay w after count sent (ap (λ (v : World). v.requests) x.after_is) (ap (λ (v : World). v.agent) x.after_is)
      (some_notes w after count sent request.call (length e.end.notes)
      (record { last = Some (reply_of request e.end e.failure); notes = (w.gateway.link request.call).notes + length e.end.notes }) refl
      (omega (arith, most, short))
      (ap (λ (v : World). v.gateway.link) x.after_is ∙ ap (λ (g : Gateway). g.link) e.after_is))
  executed_sent w after count request chosen sent short (inr (inl x)) =
      agents_stay w after count sent (ap (λ (v : World). v.requests) x.after_is) (ap (λ (v : World). v.agent) x.after_is)
      (no_note w after count sent (ap (λ (v : World). v.gateway) x.after_is))
  executed_sent w after count request chosen sent short (inr (inr (dropped, is))) =
      agents_stay w after count sent (ap (λ (v : World). v.requests) is) (ap (λ (v : World). v.agent) is)
      (no_note w after count sent (ap (λ (v : World). v.gateway) is))

  begins_sent : (w after : World) (count new old : ℕ) → HasSent w count → Begins script w new old after → HasSent after (count + 1)
  begins_sent w after count new old sent x = subst (λ (v : World). HasSent v (count + 1)) (sym x.after_is) (record {
    requests = sent.requests;
    notes = λ c. by_test (λ (l : CallLink). l.notes ≤ most_commands * (count + 1)) nothing_kept (if c == new then nothing_kept else w.gateway.link c) (c == old)
        (λ here. omega arith)
        (λ other. by_test (λ (l : CallLink). l.notes ≤ most_commands * (count + 1)) nothing_kept (w.gateway.link c) (c == new)
        (λ here. omega arith) (λ apart. let before = sent.notes c in omega (arith, before)));
    next = λ c a there. elim (agent_from script w new old c x.before a there) [
      | inl here ↦ subst (λ (b : Agent). b.next ≤ count + 1 + 1) here.1 (let before = sent.next old x.before x.open_call in omega (arith, before))
      | inr other ↦ (let before = sent.next c a other.2 in omega (arith, before))
    ];
  })

  -- ---- each event

  call_sent : (w after : World) (count call : ℕ) (event : CallEvent) → HasSent w count → OccursTo script w call event after → HasSent after (count + 1)
  call_sent w after count call (to_call.OnLine line event) sent (held, x) = line_sent w after count line.0 event sent x
  call_sent w after count call (to_call.Execute number chosen) sent (request, of_call, executes) =
      executed_sent w after count request chosen sent (sent.requests request of_call.0) executes
  call_sent w after count call (to_call.Reply number) sent (answer, of_call, steps) =
      agent_sent w after count call (λ a. replied script a answer) (λ a. replied_short script few a answer) (λ a. replied_next script a answer) sent steps
  call_sent w after count call to_call.Pass sent steps =
      agent_sent w after count call (passed script) (passed_short script few) (passed_next script) sent steps
  call_sent w after count call (to_call.Note number) sent (note, of_call, steps) =
      agent_sent w after count call (λ a. noted script a (line_places script) note) (λ a. noted_short script few a (line_places script) note)
      (λ a. noted_next script a (line_places script) note) sent steps
  call_sent w after count call to_call.Timer sent steps =
      agent_sent w after count call (timed script) (timed_short script few) (timed_next script) sent steps
  call_sent w after count call (to_call.Begin old) sent x = begins_sent w after count call old.0 sent x
  call_sent w after count call (to_call.Hear association) sent (reached, steps) =
      agent_sent w after count call (λ a. heard script a association.0) (λ a. heard_short script few a association.0)
      (λ a. heard_next script a association.0) sent steps

  event_sent : (w after : World) (count : ℕ) (event : Event) → HasSent w count → Occurs script w event after → HasSent after (count + 1)
  event_sent w after count (OfCall call event) sent occurs = call_sent w after count call.0 event sent occurs
  event_sent w after count Restart sent (may, is) = subst (λ (v : World). HasSent v (count + 1)) (sym is) (record {
    requests = sent.requests;
    notes = λ c. let before = sent.notes c in omega (arith, before);
    next = λ c a there. let before = sent.next c a there in omega (arith, before);
  })

  runs_sent : (events : List Event) (w end : World) (count : ℕ) → HasSent w count → Runs script events w end → HasSent end (count + length events)
  unfolding Runs
  runs_sent [] w end count sent runs =
      let none : count ≡ count + 0 = omega arith in
      subst (λ n. HasSent end n) none (subst (λ (v : World). HasSent v count) (sym runs) sent)
  runs_sent (event ∷ more) w end count sent (next, (occurs, runs)) =
      let one : count + 1 + length more ≡ count + suc (length more) = omega arith in
      subst (λ n. HasSent end n) one (runs_sent more next end (count + 1) (event_sent w next count event sent occurs) runs)

  -- ---- from an opening on

  opening_sent : (calls : List Opened) (w : World) → IsOpening script calls w → HasSent w 0
  opening_sent calls w o = record {
    requests = λ request there. absurd (nothing_in request w.requests o.messages.no_request there);
    notes = λ call. subst (λ (link : ℕ → CallLink). (link call).notes ≤ most_commands * 0) (sym o.gateway.no_reply_kept) (omega arith);
    next = λ call a there.
        let its = o.agents.no_other call a there in
        let is : opened script its.0.call its.0.lines ≡ a = the_some (opened script its.0.call its.0.lines) a
        (sym (o.agents.opened its.0 its.1) ∙ ap w.agent its.2 ∙ there) in
        subst (λ (b : Agent). b.next ≤ 0 + 1) is (omega arith);
  }

  pub run_sent : (calls : List Opened) (history : List Event) (start end : World) → IsOpening script calls start → Runs script history start end
      → HasSent end (length history)
  run_sent calls history start end opens runs =
      let all : 0 + length history ≡ length history = omega arith in
      subst (λ n. HasSent end n) all (runs_sent history start end 0 (opening_sent calls start opens) runs)

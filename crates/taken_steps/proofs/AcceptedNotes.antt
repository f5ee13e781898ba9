-- A note that the agent of a call accepted reached it: that is among what happened.
use Rattle.std.proofs.Common.{◌≡◌, ◌∙◌, ◌==◌, ◌⊎◌, ℕ, Bool, true, false, List, [], ◌∷◌, Contains, Option, Some, None, if◌then◌else◌, refl, sym, ap, subst, inl, inr}
use Rattle.std.specs.Prelude.{nat_lt}
use Rattle.std.proofs.lemmas.Bool.{and_from, eqb-true, or_left, or_right}
use Rattle.mg_model.proofs.Cases.{false_not_true, none_is_some, same_itself, the_some}
use Rattle.mg_model.proofs.Single.{first_in, first_or_later, later_in, none_in}
use Rattle.mg_model.specs.declared.commands.Command.{Command}
use Rattle.mg_model.specs.declared.commands.Command.TheVariants.{Subtract}
use Rattle.mg_model.specs.declared.commands.Termination.TheVariants as termination
use Rattle.mg_model.specs.declared.events.CallEvent.{CallEvent}
use Rattle.mg_model.specs.declared.events.CallEvent.TheVariants as to_call
use Rattle.mg_model.specs.declared.events.Event.{Event}
use Rattle.mg_model.specs.declared.events.Event.TheVariants.{OfCall, Restart}
use Rattle.mg_model.specs.declared.failures.Failure.{Failure}
use Rattle.mg_model.specs.Agent.{Agent, Phase, after_result, after_results, answers, awaits_pass, awaits_reply, built_by, entered, entered_if}
use Rattle.mg_model.specs.Agent.{entered_or_rests, entered_or_stays, forgotten, heard, inbox_of, is_resting, leads_on, line_in, may_accept, noted, opened}
use Rattle.mg_model.specs.Agent.{passed, passed_in, replied, replied_to, resting, target_of, timed}
use Rattle.mg_model.specs.Delivery.{with_accepted}
use Rattle.mg_model.specs.Items.{Done}
use Rattle.mg_model.specs.Messages.{Reply, SentNote}
use Rattle.mg_model.specs.Script.{Script}
use Rattle.mg_model.specs.Tables.{line_places, state_of}
use Rattle.mg_model.specs.World.{AgentSteps, IsOpening, Occurs, OccursTo, Opened, Runs, World, note}
use Rattle.mg_safety.proofs.Agents.AgentSteps.{stepped_agent}
use Rattle.mg_safety.proofs.Agents.Entering.{enters}
use Rattle.mg_safety.proofs.Events.Handover.{agent_from}
use Rattle.taken_steps.specs.Reasons.{has_reached, is_note_of}

-- ---- what a step accepts

-- an agent after a step accepted what it had accepted before, and else what is new
abbrev AcceptsOnly : (ℕ → Type 0) → Agent → Option Agent → Type 0
AcceptsOnly new a o = (b : Agent) → o ≡ Some b → (n : ℕ) → b.accepted n ≡ true → (a.accepted n ≡ true) ⊎ new n

abbrev no_note : ℕ → Type 0
no_note n = ⊥

-- what an agent has accepted that is between
abbrev HasOnly : (ℕ → Type 0) → Agent → Agent → Type 0
HasOnly new a e = (n : ℕ) → e.accepted n ≡ true → (a.accepted n ≡ true) ⊎ new n

has_itself : (a : Agent) → HasOnly no_note a a
has_itself a n accepted_so = inl accepted_so

accepts_none : (new : ℕ → Type 0) (a : Agent) → AcceptsOnly new a None
accepts_none new a b is = absurd (none_is_some b is)

accepts_so : (new : ℕ → Type 0) (a e : Agent) → HasOnly new a e → AcceptsOnly new a (Some e)
accepts_so new a e has b is n accepted_so = has n (ap (λ (x : Agent). x.accepted n) (the_some e b is) ∙ accepted_so)

result_accepts : (a : Agent) (command : Command) (done : Done) (number : ℕ) → (after_result a command done number).accepted ≡ a.accepted
result_accepts a (Subtract j (termination.Line i)) done number = refl
result_accepts a command done number = refl

results_accept : (a : Agent) (commands : List Command) (results : List Done) (number : ℕ) → (after_results a commands results number).accepted ≡ a.accepted
results_accept a [] results number = refl
results_accept a (command ∷ more) [] number = refl
results_accept a (command ∷ more) (done ∷ results) number =
    results_accept (after_result a command done number) more results number ∙ result_accepts a command done number

module _ (script : Script) (new : ℕ → Type 0) (a e : Agent) (has : HasOnly new a e) where
  entered_accepts : (state : ℕ) → AcceptsOnly new a (entered script e state)
  entered_accepts state b is n accepted_so = elim (enters script e state b is) [
    | inl passes ↦ has n (ap (λ (x : Agent). x.accepted n) passes.1 ∙ accepted_so)
    | inr asks ↦ has n (ap (λ (x : Agent). x.accepted n) asks.1 ∙ accepted_so)
  ]

  rests_accepts : (target : Option ℕ) → AcceptsOnly new a (entered_or_rests script e target)
  rests_accepts None = accepts_so new a (record e { phase = resting }) has
  rests_accepts (Some state) = entered_accepts state

  stays_accepts : (target : Option ℕ) → AcceptsOnly new a (entered_or_stays script e target)
  stays_accepts None = accepts_so new a e has
  stays_accepts (Some state) = entered_accepts state

  if_accepts : (target : Option ℕ) → AcceptsOnly new a (entered_if script e target)
  if_accepts None = accepts_none new a
  if_accepts (Some state) = entered_accepts state

  leads_accepts : (was : Agent) (failure : Option Failure) → AcceptsOnly new a (leads_on script was e failure)
  leads_accepts was None = rests_accepts (state_of script was.state).ok
  leads_accepts was (Some failure) = if_accepts (state_of script was.state).fault

where_it_may : (new : ℕ → Type 0) (a : Agent) (test : Bool) (o : Option Agent) → AcceptsOnly new a o → AcceptsOnly new a (if test then o else None)
where_it_may new a true o accepts = accepts
where_it_may new a false o accepts = accepts_none new a

module _ (script : Script) (a : Agent) where
  replied_accepts : (reply : Reply) → AcceptsOnly no_note a (replied script a reply)
  replied_accepts reply = in_phase a.phase
    where
      bound_has : HasOnly no_note a (after_results a (built_by script a a.state) reply.results reply.number)
      bound_has n accepted_so =
          inl (ap (λ (accepted : ℕ → Bool). accepted n) (sym (results_accept a (built_by script a a.state) reply.results reply.number)) ∙ accepted_so)

      in_phase : (phase : Phase) → AcceptsOnly no_note a (replied_to script a phase reply)
      in_phase (awaits_reply request) = where_it_may no_note a (answers reply request)
          (leads_on script a (after_results a (built_by script a a.state) reply.results reply.number) reply.failure)
          (leads_accepts script no_note a (after_results a (built_by script a a.state) reply.results reply.number) bound_has a reply.failure)
      in_phase phase = accepts_none no_note a

  passed_accepts : AcceptsOnly no_note a (passed script a)
  passed_accepts = in_phase a.phase
    where
      in_phase : (phase : Phase) → AcceptsOnly no_note a (passed_in script a phase)
      in_phase awaits_pass = rests_accepts script no_note a a (has_itself a) (state_of script a.state).ok
      in_phase phase = accepts_none no_note a

  timed_accepts : AcceptsOnly no_note a (timed script a)
  timed_accepts = where_it_may no_note a (is_resting a.phase) (entered_if script a (state_of script a.state).timer)
      (if_accepts script no_note a a (has_itself a) (state_of script a.state).timer)

  heard_accepts : (association : ℕ) → AcceptsOnly no_note a (heard script a association)
  heard_accepts association = where_it_may no_note a (nat_lt a.association association) (entered script (forgotten a association) script.restart)
      (entered_accepts script no_note a (forgotten a association) (λ n accepted_so. absurd (false_not_true accepted_so)) script.restart)

  module _ (sent : SentNote) where
    abbrev with_note : Agent
    with_note = record a { accepted = (with_accepted (inbox_of a) sent.number).accepted }

    by_number : (n : ℕ) (test : Bool) → (n == sent.number) ≡ test → (if test then true else a.accepted n) ≡ true
        → (a.accepted n ≡ true) ⊎ (n ≡ sent.number)
    by_number n true is accepted_so = inr (eqb-true n sent.number is)
    by_number n false is accepted_so = inl accepted_so

    noted_accepts : (slots : List ℕ) → AcceptsOnly (λ n. n ≡ sent.number) a (noted script a slots sent)
    noted_accepts slots =
        let target = target_of script with_note (line_in with_note sent.line slots) sent.note in
        where_it_may (λ n. n ≡ sent.number) a (may_accept script a sent) (entered_or_stays script with_note target)
        (stays_accepts script (λ n. n ≡ sent.number) a with_note (λ n accepted_so. by_number n (n == sent.number) refl accepted_so) target)

-- ---- what happened

-- a note that reached a call is found
found : (call number : ℕ) (events : List Event) → Contains events (note call number) → has_reached call number events ≡ true
found call number [] among = absurd (none_in (note call number) among)
found call number (event ∷ more) among = elim (first_or_later event more (note call number) among) [
  | inl first ↦ or_left (is_note_of call number event) (has_reached call number more)
      (subst (λ (e : Event). is_note_of call number e ≡ true) (sym first) (and_from (call == call) (number == number) (same_itself call) (same_itself number)))
  | inr later ↦ or_right (is_note_of call number event) (has_reached call number more) (found call number more later)
]

module _ (script : Script) (history : List Event) where
  -- each note that an agent accepted reached its call
  abbrev HaveReached : World → Type 0
  HaveReached w = (call : ℕ) (a : Agent) → w.agent call ≡ Some a → (n : ℕ) → a.accepted n ≡ true → has_reached call n history ≡ true

  agents_stay : (w after : World) → after.agent ≡ w.agent → HaveReached w → HaveReached after
  agents_stay w after same reached call a there = reached call a (ap (λ (agent : ℕ → Option Agent). agent call) (sym same) ∙ there)

  agent_steps_on : (w after : World) (call : ℕ) (new : ℕ → Type 0) (step : Agent → Option Agent) → ((a : Agent) → AcceptsOnly new a (step a))
      → ((n : ℕ) → new n → has_reached call n history ≡ true) → HaveReached w → AgentSteps w call step after → HaveReached after
  agent_steps_on w after call new step accepts arrived reached x = subst HaveReached (sym x.after_is) (λ c a there n accepted_so.
      elim (stepped_agent w call x.agent c a there) [
        | inl here ↦ subst (λ k. has_reached k n history ≡ true) (sym here.0)
            (elim (accepts x.before x.agent x.steps n (ap (λ (b : Agent). b.accepted n) here.1 ∙ accepted_so)) [
              | inl before ↦ reached call x.before x.open_call n before
              | inr now ↦ arrived n now
            ])
        | inr other ↦ reached c a other.1 n accepted_so
      ])

  none_new : (call n : ℕ) → no_note n → has_reached call n history ≡ true
  none_new call n none = absurd none

  call_reached : (w after : World) (call : ℕ) (event : CallEvent) → Contains history (OfCall (record { 0 = call }) event) → HaveReached w
      → OccursTo script w call event after → HaveReached after
  call_reached w after call (to_call.OnLine line event) among reached (held, x) = agents_stay w after (ap (λ (v : World). v.agent) x.after_is) reached
  call_reached w after call (to_call.Execute number chosen) among reached (request, of_call, inl x) =
      agents_stay w after (ap (λ (v : World). v.agent) x.after_is) reached
  call_reached w after call (to_call.Execute number chosen) among reached (request, of_call, inr (inl x)) =
      agents_stay w after (ap (λ (v : World). v.agent) x.after_is) reached
  call_reached w after call (to_call.Execute number chosen) among reached (request, of_call, inr (inr (dropped, is))) =
      agents_stay w after (ap (λ (v : World). v.agent) is) reached
  call_reached w after call (to_call.Reply number) among reached (answer, of_call, steps) =
      agent_steps_on w after call no_note (λ a. replied script a answer) (λ a. replied_accepts script a answer) (none_new call) reached steps
  call_reached w after call to_call.Pass among reached steps =
      agent_steps_on w after call no_note (passed script) (passed_accepts script) (none_new call) reached steps
  call_reached w after call (to_call.Note number) among reached (sent, of_call, steps) =
      agent_steps_on w after call (λ n. n ≡ sent.number) (λ a. noted script a (line_places script) sent)
      (λ a. noted_accepts script a sent (line_places script))
      (λ n is. subst (λ k. has_reached call k history ≡ true) (sym (is ∙ of_call.2)) (found call number history among)) reached steps
  call_reached w after call to_call.Timer among reached steps =
      agent_steps_on w after call no_note (timed script) (timed_accepts script) (none_new call) reached steps
  call_reached w after call (to_call.Begin old) among reached x = subst HaveReached (sym x.after_is) (λ c a there n accepted_so.
      elim (agent_from script w call old.0 c x.before a there) [
        | inl here ↦ absurd (false_not_true (ap (λ (b : Agent). b.accepted n) here.1 ∙ accepted_so))
        | inr other ↦ reached c a other.2 n accepted_so
      ])
  call_reached w after call (to_call.Hear association) among reached (begun_there, steps) =
      agent_steps_on w after call no_note (λ a. heard script a association.0) (λ a. heard_accepts script a association.0) (none_new call) reached steps

  event_reached : (w after : World) (event : Event) → Contains history event → HaveReached w → Occurs script w event after → HaveReached after
  event_reached w after (OfCall call event) among reached occurs = call_reached w after call.0 event among reached occurs
  event_reached w after Restart among reached (may, is) = agents_stay w after (ap (λ (v : World). v.agent) is) reached

  runs_reached : (events : List Event) (w end : World) → ((event : Event) → Contains events event → Contains history event) → HaveReached w
      → Runs script events w end → HaveReached end
  unfolding Runs
  runs_reached [] w end within reached runs = subst HaveReached (sym runs) reached
  runs_reached (event ∷ more) w end within reached (next, (occurs, runs)) =
      runs_reached more next end (λ other there. within other (later_in event more other there))
      (event_reached w next event (within event (first_in event more)) reached occurs) runs

  opening_reached : (calls : List Opened) (w : World) → IsOpening script calls w → HaveReached w
  opening_reached calls w o call a there n accepted_so =
      let its = o.agents.no_other call a there in
      let is : opened script its.0.call its.0.lines ≡ a = the_some (opened script its.0.call its.0.lines) a
      (sym (o.agents.opened its.0 its.1) ∙ ap w.agent its.2 ∙ there) in
      absurd (false_not_true (ap (λ (b : Agent). b.accepted n) is ∙ accepted_so))

pub accepted_reached : (script : Script) (calls : List Opened) (history : List Event) (start end : World) → IsOpening script calls start
    → Runs script history start end → (call : ℕ) (a : Agent) → end.agent call ≡ Some a → (n : ℕ) → a.accepted n ≡ true → has_reached call n history ≡ true
accepted_reached script calls history start end opens runs =
    runs_reached script history history start end (λ event there. there) (opening_reached script history calls start opens) runs

-- A note that an agent accepted is one that its gateway counted, so the number of the next note is new to it.
use Rattle.std.proofs.Common.{◌≡◌, ◌∙◌, ◌+◌, ◌≤◌, ◌==◌, ℕ, Bool, true, false, List, [], ◌∷◌, length, Option, Some, None, refl, sym, ap, subst, arith, inl, inr}
use Rattle.std.specs.Prelude.{if◌then◌else◌, nat_lt}
use Rattle.std.proofs.lemmas.Bool.{eqb-true}
use Rattle.mg_model.specs.declared.commands.Command.{Command}
use Rattle.mg_model.specs.declared.commands.Command.TheVariants.{Subtract}
use Rattle.mg_model.specs.declared.commands.Termination.TheVariants as termination
use Rattle.mg_model.specs.declared.events.CallEvent.{CallEvent}
use Rattle.mg_model.specs.declared.events.CallEvent.TheVariants as to_call
use Rattle.mg_model.specs.declared.events.Event.{Event}
use Rattle.mg_model.specs.declared.events.Event.TheVariants.{OfCall, Restart}
use Rattle.mg_model.specs.declared.failures.ChosenRefusal.{ChosenRefusal}
use Rattle.mg_model.specs.declared.failures.Failure.{Failure}
use Rattle.mg_model.specs.Agent.{Agent, Phase, answers, awaits_reply, awaits_pass, resting, after_result, after_results, built_by, entered, entered_if}
use Rattle.mg_model.specs.Agent.{entered_or_rests, entered_or_stays, forgotten, heard, is_resting, leads_on, line_in, may_accept, noted, opened, passed, passed_in}
use Rattle.mg_model.specs.Agent.{replied, replied_to, target_of, timed}
use Rattle.mg_model.specs.declared.line_events.LineEvent.{LineEvent}
use Rattle.mg_model.specs.Gateway.{CallLink, Gateway, reply_of}
use Rattle.mg_model.specs.Items.{Done}
use Rattle.mg_model.specs.Messages.{Reply, Request, SentNote}
use Rattle.mg_model.specs.Script.{Script}
use Rattle.mg_model.specs.Tables.{line_places, state_of}
use Rattle.mg_model.specs.Updates.{with_at}
use Rattle.mg_model.specs.World.{World, Opened, AgentSteps, Begins, Executes, IsOpening, LineOccurs, Occurs, OccursTo, Runs}
use Rattle.mg_model.proofs.Cases.{at_another, by_test, false_not_true, none_is_some, the_some}
use Rattle.mg_safety.proofs.Agents.AgentSteps.{stepped_agent}
use Rattle.mg_safety.proofs.Agents.Entering.{enters}
use Rattle.mg_safety.proofs.Events.Handover.{agent_from}
use Rattle.mg_safety.proofs.Messages.NamedMessages.{event_numbered}
use Rattle.mg_safety.proofs.Messages.NumberedWorlds.{IsNumbered}

abbrev pub AcceptedAreCounted : World → Type 0
AcceptedAreCounted w = (call : ℕ) (a : Agent) (n : ℕ) → w.agent call ≡ Some a → a.accepted n ≡ true → n ≤ (w.gateway.link call).notes

-- ---- what a step accepts

-- whatever agent it gives has accepted no more than these
abbrev Accepts : (ℕ → Bool) → Option Agent → Type 0
Accepts before o = (b : Agent) → o ≡ Some b → (n : ℕ) → b.accepted n ≡ true → before n ≡ true

accepts_none : (before : ℕ → Bool) → Accepts before None
accepts_none before b is n e = absurd (none_is_some b is)

accepts : (c : Agent) → Accepts c.accepted (Some c)
accepts c b is n e = ap (λ (x : Agent). x.accepted n) (the_some c b is) ∙ e

entered_accepts : (script : Script) (a : Agent) (state : ℕ) → Accepts a.accepted (entered script a state)
entered_accepts script a state b is n e = elim (enters script a state b is) [
  | inl passes ↦ ap (λ (x : Agent). x.accepted n) passes.1 ∙ e
  | inr asks ↦ ap (λ (x : Agent). x.accepted n) asks.1 ∙ e
]

rests_accepts : (script : Script) (a : Agent) (target : Option ℕ) → Accepts a.accepted (entered_or_rests script a target)
rests_accepts script a None = accepts (record a { phase = resting })
rests_accepts script a (Some state) = entered_accepts script a state

if_accepts : (script : Script) (a : Agent) (target : Option ℕ) → Accepts a.accepted (entered_if script a target)
if_accepts script a None = accepts_none a.accepted
if_accepts script a (Some state) = entered_accepts script a state

stays_accepts : (script : Script) (a : Agent) (target : Option ℕ) → Accepts a.accepted (entered_or_stays script a target)
stays_accepts script a None = accepts a
stays_accepts script a (Some state) = entered_accepts script a state

leads_accepts : (script : Script) (was a : Agent) (failure : Option Failure) → Accepts a.accepted (leads_on script was a failure)
leads_accepts script was a None = rests_accepts script a (state_of script was.state).ok
leads_accepts script was a (Some failure) = if_accepts script a (state_of script was.state).fault

result_accepts : (a : Agent) (command : Command) (done : Done) (number : ℕ) → (after_result a command done number).accepted ≡ a.accepted
result_accepts a (Subtract j (termination.Line i)) done number = refl
result_accepts a command done number = refl

results_accept : (a : Agent) (commands : List Command) (results : List Done) (number : ℕ) → (after_results a commands results number).accepted ≡ a.accepted
results_accept a [] results number = refl
results_accept a (command ∷ more) [] number = refl
results_accept a (command ∷ more) (done ∷ results) number =
    results_accept (after_result a command done number) more results number ∙ result_accepts a command done number

replied_accepts : (script : Script) (a : Agent) (answer : Reply) → Accepts a.accepted (replied script a answer)
replied_accepts script a answer = in_phase a.phase
  where
    answered : (fits : Bool) → Accepts a.accepted (if fits
        then leads_on script a (after_results a (built_by script a a.state) answer.results answer.number) answer.failure else None)
    answered true =
        let bound = after_results a (built_by script a a.state) answer.results answer.number in
        subst (λ (before : ℕ → Bool). Accepts before (leads_on script a bound answer.failure))
        (results_accept a (built_by script a a.state) answer.results answer.number) (leads_accepts script a bound answer.failure)
    answered false = accepts_none a.accepted

    in_phase : (phase : Phase) → Accepts a.accepted (replied_to script a phase answer)
    in_phase (awaits_reply request) = answered (answers answer request)
    in_phase awaits_pass = accepts_none a.accepted
    in_phase resting = accepts_none a.accepted

passed_accepts : (script : Script) (a : Agent) → Accepts a.accepted (passed script a)
passed_accepts script a = in_phase a.phase
  where
    in_phase : (phase : Phase) → Accepts a.accepted (passed_in script a phase)
    in_phase awaits_pass = rests_accepts script a (state_of script a.state).ok
    in_phase (awaits_reply request) = accepts_none a.accepted
    in_phase resting = accepts_none a.accepted

timed_accepts : (script : Script) (a : Agent) → Accepts a.accepted (timed script a)
timed_accepts script a = at_rest (is_resting a.phase)
  where
    at_rest : (rests : Bool) → Accepts a.accepted (if rests then entered_if script a (state_of script a.state).timer else None)
    at_rest true = if_accepts script a (state_of script a.state).timer
    at_rest false = accepts_none a.accepted

-- an agent that hears of a restart has accepted none
heard_accepts : (script : Script) (a : Agent) (association : ℕ) → Accepts a.accepted (heard script a association)
heard_accepts script a association = newer (nat_lt a.association association)
  where
    newer : (is_newer : Bool) → Accepts a.accepted (if is_newer then entered script (forgotten a association) script.restart else None)
    newer true b is n e = absurd (false_not_true (entered_accepts script (forgotten a association) script.restart b is n e))
    newer false b is n e = absurd (none_is_some b is)

noted_accepts : (script : Script) (a : Agent) (slots : List ℕ) (sent : SentNote) → Accepts (with_at a.accepted sent.number true) (noted script a slots sent)
noted_accepts script a slots sent = accepted (may_accept script a sent)
  where
    accepted : (may : Bool) → Accepts (with_at a.accepted sent.number true) (if may
        then entered_or_stays script (record a { accepted = with_at a.accepted sent.number true }) (target_of script a (line_in a sent.line slots) sent.note)
        else None)
    accepted true =
        stays_accepts script (record a { accepted = with_at a.accepted sent.number true }) (target_of script a (line_in a sent.line slots) sent.note)
    accepted false = accepts_none (with_at a.accepted sent.number true)

-- ---- worlds

steps_accepted : (w after : World) (call : ℕ) (step : Agent → Option Agent) → AcceptedAreCounted w
    → ((a b : Agent) → w.agent call ≡ Some a → step a ≡ Some b → (n : ℕ) → b.accepted n ≡ true → n ≤ (w.gateway.link call).notes)
    → AgentSteps w call step after → AcceptedAreCounted after
steps_accepted w after call step was counted s = subst AcceptedAreCounted (sym s.after_is) (λ c a n is e. elim (stepped_agent w call s.agent c a is) [
  | inl here ↦ subst (λ (m : ℕ). n ≤ (w.gateway.link m).notes) (sym here.0)
      (counted s.before s.agent s.open_call s.steps n (ap (λ (x : Agent). x.accepted n) here.1 ∙ e))
  | inr other ↦ was c a n other.1 e
])

-- a step that accepts no more
kept_accepted : (w after : World) (call : ℕ) (step : Agent → Option Agent) → ((a : Agent) → Accepts a.accepted (step a)) → AcceptedAreCounted w
    → AgentSteps w call step after → AcceptedAreCounted after
kept_accepted w after call step keeps was s = steps_accepted w after call step was (λ a b there is n e. was call a n there (keeps a b is n e)) s

-- the same agents, and as many notes or more
grown_accepted : (w after : World) → after.agent ≡ w.agent → ((c : ℕ) → (w.gateway.link c).notes ≤ (after.gateway.link c).notes) → AcceptedAreCounted w
    → AcceptedAreCounted after
grown_accepted w after agents grow was c a n is e =
    let counted = was c a n (sym (ap (λ (agent : ℕ → Option Agent). agent c) agents) ∙ is) e in
    let more = grow c in
    omega (arith, counted, more)

-- a link that has as many notes or more in the place of one
one_grows : (g : Gateway) (call c : ℕ) (link : CallLink) → (g.link call).notes ≤ link.notes → (g.link c).notes ≤ (if c == call then link else g.link c).notes
one_grows g call c link grows = by_test (λ (x : CallLink). (g.link c).notes ≤ x.notes) link (g.link c) (c == call)
    (λ same. subst (λ (m : ℕ). (g.link m).notes ≤ link.notes) (sym (eqb-true c call same)) grows) (λ other. omega (arith))

execute_accepted : (w after : World) (request : Request) (chosen : Option ChosenRefusal) → AcceptedAreCounted w → Executes w request chosen after
    → AcceptedAreCounted after
execute_accepted w after request chosen was (inl first) =
    grown_accepted w after (ap (λ (x : World). x.agent) first.after_is)
    (λ c. subst (λ (g : Gateway). (w.gateway.link c).notes ≤ (g.link c).notes)
    (sym (ap (λ (x : World). x.gateway) first.after_is ∙ first.executed.after_is))
    (one_grows w.gateway request.call c (record {
      last = Some (reply_of request first.executed.end first.executed.failure);
      notes = (w.gateway.link request.call).notes + length first.executed.end.notes;
    }) (omega (arith)))) was
execute_accepted w after request chosen was (inr (inl again)) =
    grown_accepted w after (ap (λ (x : World). x.agent) again.after_is)
    (λ c. subst (λ (g : Gateway). (w.gateway.link c).notes ≤ (g.link c).notes) (sym (ap (λ (x : World). x.gateway) again.after_is)) (omega (arith))) was
execute_accepted w after request chosen was (inr (inr dropped)) = subst AcceptedAreCounted (sym dropped.1) was

line_accepted : (w after : World) (l : ℕ) (event : LineEvent) → AcceptedAreCounted w → LineOccurs w l event after → AcceptedAreCounted after
line_accepted w after l event was o =
    grown_accepted w after (ap (λ (x : World). x.agent) o.after_is)
    (λ c. subst (λ (g : Gateway). (w.gateway.link c).notes ≤ (g.link c).notes) (sym (ap (λ (x : World). x.gateway) o.after_is ∙ o.happens.after_is))
    (one_grows w.gateway o.happens.call c
    (record { last = (w.gateway.link o.happens.call).last; notes = (w.gateway.link o.happens.call).notes + length o.sent }) (omega (arith)))) was

begin_accepted : (script : Script) (w after : World) (new old : ℕ) → AcceptedAreCounted w → Begins script w new old after → AcceptedAreCounted after
begin_accepted script w after new old was x = subst AcceptedAreCounted (sym x.after_is) (λ c a n is e. elim (agent_from script w new old c x.before a is) [
  | inl here ↦ absurd (false_not_true (ap (λ (b : Agent). b.accepted n) here.1 ∙ e))
  | inr other ↦ subst (λ (link : CallLink). n ≤ link.notes)
      (sym (at_another old c _ (if c == new then record { last = None; notes = 0 } else w.gateway.link c) other.1
      ∙ at_another new c (record { last = None; notes = 0 }) (w.gateway.link c) other.0)) (was c a n other.2 e)
])

-- ---- events

note_accepted : (script : Script) (w after : World) (call number : ℕ) → IsNumbered w → AcceptedAreCounted w
    → OccursTo script w call (to_call.Note number) after → AcceptedAreCounted after
note_accepted script w after call number numbered was (sent, of, s) =
    steps_accepted w after call (λ a. noted script a (line_places script) sent) was
    (λ a b there is n e. by_number a there n (n == sent.number) refl (noted_accepts script a (line_places script) sent b is n e)) s
  where
    by_number : (a : Agent) → w.agent call ≡ Some a → (n : ℕ) (same : Bool) → (n == sent.number) ≡ same → (if same then true else a.accepted n) ≡ true
        → n ≤ (w.gateway.link call).notes
    by_number a there n true same e =
        let most = numbered.notes.counted sent of.0 (ap w.gateway.retired of.1 ∙ numbered.open_calls call a there) in
        let here : n ≡ sent.number = eqb-true n sent.number same in
        subst (λ (c : ℕ). n ≤ (w.gateway.link c).notes) of.1 (omega (arith, most, here))
    by_number a there n false other e = was call a n there e

occurs_accepted : (script : Script) (w after : World) (call : ℕ) (happens : CallEvent) → IsNumbered w → AcceptedAreCounted w → OccursTo script w call happens after
    → AcceptedAreCounted after
occurs_accepted script w after call (to_call.OnLine line event) numbered was (held, o) = line_accepted w after line.0 event was o
occurs_accepted script w after call (to_call.Execute number chosen) numbered was (request, of, executes) = execute_accepted w after request chosen was executes
occurs_accepted script w after call (to_call.Reply number) numbered was (answer, of, s) =
    kept_accepted w after call (λ a. replied script a answer) (λ a. replied_accepts script a answer) was s
occurs_accepted script w after call to_call.Pass numbered was s = kept_accepted w after call (passed script) (passed_accepts script) was s
occurs_accepted script w after call (to_call.Note number) numbered was noted = note_accepted script w after call number numbered was noted
occurs_accepted script w after call to_call.Timer numbered was s = kept_accepted w after call (timed script) (timed_accepts script) was s
occurs_accepted script w after call (to_call.Begin old) numbered was begins = begin_accepted script w after call old.0 was begins
occurs_accepted script w after call (to_call.Hear association) numbered was (past, s) =
    kept_accepted w after call (λ a. heard script a association.0) (λ a. heard_accepts script a association.0) was s

event_accepted : (script : Script) (w after : World) (event : Event) → IsNumbered w → AcceptedAreCounted w → Occurs script w event after
    → AcceptedAreCounted after
event_accepted script w after (OfCall call happens) numbered was occurs = occurs_accepted script w after call.0 happens numbered was occurs
event_accepted script w after Restart numbered was (less, is) =
    grown_accepted w after (ap (λ (x : World). x.agent) is)
    (λ c. subst (λ (g : Gateway). (w.gateway.link c).notes ≤ (g.link c).notes) (sym (ap (λ (x : World). x.gateway) is)) (omega (arith))) was

pub runs_accepted : (script : Script) (events : List Event) (w end : World) → IsNumbered w → AcceptedAreCounted w → Runs script events w end
    → AcceptedAreCounted end
unfolding Runs
runs_accepted script [] w end numbered was runs = subst AcceptedAreCounted (sym runs) was
runs_accepted script (event ∷ more) w end numbered was (next, (occurs, runs)) =
    runs_accepted script more next end (event_numbered script w next event numbered occurs) (event_accepted script w next event numbered was occurs) runs

pub opening_accepted : (script : Script) (calls : List Opened) (w : World) → IsOpening script calls w → AcceptedAreCounted w
opening_accepted script calls w opens call a n is e =
    let its = opens.agents.no_other call a is in
    let one = the_some (opened script its.0.call its.0.lines) a (sym (opens.agents.opened its.0 its.1) ∙ ap w.agent its.2 ∙ is) in
    absurd (false_not_true (ap (λ (x : Agent). x.accepted n) one ∙ e))

-- At each moment no line is of two calls: whoever has a line holds it on the gateway, and a call that begins is handed the lines of the old one.
use Rattle.mg_safety.proofs.Words.{◌≡◌, ◌∙◌, ◌<◌, ◌==◌, ℕ, List, [], ◌∷◌, length, Option, Some, sym, ap, subst, inl, inr, eqb-true, CallEvent, Event, OfCall}
use Rattle.mg_safety.proofs.Words.{Restart, Agent, opened, replied, passed, noted, timed, heard, Gateway, Script, line_places, World, Opened, IsOpening}
use Rattle.mg_safety.proofs.Words.{AgentSteps, agent_steps, Begins, OccursTo, Occurs, the_some, line_held, by_test}
use Rattle.mg_model.specs.declared.events.CallEvent.TheVariants as to_call
use Rattle.mg_model.specs.World.{Runs}
use Rattle.mg_safety.specs.Laws.{LinesStayDistinct}
use Rattle.mg_safety.proofs.Events.Handover.{handed_own, handed_other, world_begun, agent_from}
use Rattle.mg_safety.proofs.Messages.AgentNumbers.{GivesNext, replied_next, passed_next, noted_next, timed_next, heard_next}

-- each line of a call is held by it
abbrev AreHeld : Script → World → Type 0
AreHeld script w = (call : ℕ) (a : Agent) → w.agent call ≡ Some a → (i : ℕ) → i < length script.lines → w.gateway.holder (a.lines i) ≡ Some call

-- where agents and holders stay
held_still : (script : Script) (w after : World) → after.agent ≡ w.agent → after.gateway.holder ≡ w.gateway.holder → AreHeld script w → AreHeld script after
held_still script w after agents holders held call a there i within =
    ap (λ (holder : ℕ → Option ℕ). holder (a.lines i)) holders ∙ held call a (ap (λ (agent : ℕ → Option Agent). agent call) (sym agents) ∙ there) i within

steps_held : (script : Script) (w after : World) (call : ℕ) (step : Agent → Option Agent) → ((a : Agent) → GivesNext a.call a.next a.lines (step a))
    → AreHeld script w → AgentSteps w call step after → AreHeld script after
steps_held script w after call step next held s = subst (AreHeld script) (sym s.after_is) stepped
  where
    stepped : AreHeld script (agent_steps w call s.agent)
    stepped other a is i within =
        by_test (λ (o : Option Agent). o ≡ Some a → w.gateway.holder (a.lines i) ≡ Some other) (Some s.agent) (w.agent other) (other == call)
        (λ e here. ap (λ (b : Agent). w.gateway.holder (b.lines i)) (sym (the_some s.agent a here))
        ∙ ap (λ (lines : ℕ → ℕ). w.gateway.holder (lines i)) (next s.before s.agent s.steps).lines_are
        ∙ held call s.before s.open_call i within ∙ ap (λ (n : ℕ). Some n) (sym (eqb-true other call e)))
        (λ e there. held other a there i within) is

begins_held : (script : Script) (w after : World) (new old : ℕ) → AreHeld script w → Begins script w new old after → AreHeld script after
begins_held script w after new old held x = subst (AreHeld script) (sym x.after_is) begun_held
  where
    begun_held : AreHeld script (world_begun script w new old x.before)
    begun_held call a is i within = elim (agent_from script w new old call x.before a is) [
      | inl here ↦ ap (λ (b : Agent). (world_begun script w new old x.before).gateway.holder (b.lines i)) (sym here.1)
          ∙ handed_own old new (w.gateway.holder (x.before.lines i)) (held old x.before x.open_call i within) ∙ ap (λ (n : ℕ). Some n) (sym here.0)
      | inr other ↦ handed_other old new call (w.gateway.holder (a.lines i)) (held call a other.2 i within) other.1
    ]

-- ---- events

call_held : (script : Script) (w after : World) (call : ℕ) (happens : CallEvent) → AreHeld script w → OccursTo script w call happens after
    → AreHeld script after
call_held script w after call (to_call.OnLine line event) held x =
    held_still script w after (ap (λ (v : World). v.agent) x.1.after_is)
    (ap (λ (v : World). v.gateway.holder) x.1.after_is ∙ ap (λ (g : Gateway). g.holder) x.1.happens.after_is) held
call_held script w after call (to_call.Execute number chosen) held (request, is, inl x) =
    held_still script w after (ap (λ (v : World). v.agent) x.after_is)
    (ap (λ (v : World). v.gateway.holder) x.after_is ∙ ap (λ (g : Gateway). g.holder) x.executed.after_is) held
call_held script w after call (to_call.Execute number chosen) held (request, is, inr (inl x)) =
    held_still script w after (ap (λ (v : World). v.agent) x.after_is) (ap (λ (v : World). v.gateway.holder) x.after_is) held
call_held script w after call (to_call.Execute number chosen) held (request, is, inr (inr x)) = subst (AreHeld script) (sym x.1) held
call_held script w after call (to_call.Reply number) held (answer, is, steps) =
    steps_held script w after call (λ a. replied script a answer) (λ a. replied_next script a answer) held steps
call_held script w after call to_call.Pass held x = steps_held script w after call (passed script) (passed_next script) held x
call_held script w after call (to_call.Note number) held (sent, is, steps) =
    steps_held script w after call (λ a. noted script a (line_places script) sent) (λ a. noted_next script a (line_places script) sent) held steps
call_held script w after call to_call.Timer held x = steps_held script w after call (timed script) (timed_next script) held x
call_held script w after call (to_call.Begin old) held x = begins_held script w after call old.0 held x
call_held script w after call (to_call.Hear association) held x =
    steps_held script w after call (λ a. heard script a association.0) (λ a. heard_next script a association.0) held x.1

event_held : (script : Script) (w after : World) (event : Event) → AreHeld script w → Occurs script w event after → AreHeld script after
event_held script w after (OfCall call happens) held x = call_held script w after call.0 happens held x
event_held script w after Restart held x = held_still script w after (ap (λ (v : World). v.agent) x.1) (ap (λ (v : World). v.gateway.holder) x.1) held

runs_held : (script : Script) (events : List Event) (w end : World) → AreHeld script w → Runs script events w end → AreHeld script end
unfolding Runs
runs_held script [] w end held runs = subst (AreHeld script) (sym runs) held
runs_held script (event ∷ more) w end held runs = runs_held script more runs.0 end (event_held script w runs.0 event held runs.1.0) runs.1.1

opening_held : (script : Script) (calls : List Opened) (w : World) → IsOpening script calls w → AreHeld script w
opening_held script calls w opens call a there i within =
    let its = opens.agents.no_other call a there in
    let is : a ≡ opened script its.0.call its.0.lines = the_some a (opened script its.0.call its.0.lines)
    (sym there ∙ ap w.agent (sym its.2) ∙ opens.agents.opened its.0 its.1) in
    ap (λ (b : Agent). w.gateway.holder (b.lines i)) is ∙ line_held script calls w.gateway opens.lines its.0 its.1 i within ∙ ap (λ (n : ℕ). Some n) its.2

pub lines_distinct : LinesStayDistinct
lines_distinct script calls events opening end opens runs call other a b i j there too within inside same =
    let held = runs_held script events opening end (opening_held script calls opening opens) runs in
    the_some call other (sym (held call a there i within) ∙ ap end.gateway.holder same ∙ held other b too j inside)

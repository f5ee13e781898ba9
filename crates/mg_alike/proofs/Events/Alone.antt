-- A call of a run of any calls goes as it would go alone.
use Rattle.std.proofs.Common.{◌≡◌, ◌∙◌, ◌<◌, ◌++◌, ℕ, Bool, true, false, List, [], ◌∷◌, Option, Some, refl, sym, ap, subst, inl, inr, ◌==◌, ◌⊎◌, if◌then◌else◌}
use Rattle.mg_merge.proofs.Words.{Agent, AgentSteps, All, CallEvent, ChosenRefusal, Entry, Event, Executes, Gateway, IsEntryOf, IsOpening, IsScript, NoneBroken}
use Rattle.mg_merge.proofs.Words.{Occurs, OccursTo, OfCall, Opened, Request, Restart, Runs, RunsWithin, Script, World, eqb-false, eqb-true, last_association}
use Rattle.mg_merge.proofs.Words.{none_is_some, not_both, only_here, restarted, with_gateway}
use Rattle.mg_alike.proofs.Words.{AreReached, CallsAreIsolated, IsBeginning, IsRetiredBy, NeverRunsOut, TreatAlike, events_alone}
use Rattle.mg_model.specs.declared.events.CallEvent.TheVariants as to_call
use Rattle.mg_safety.proofs.Messages.NamedMessages.{event_numbered, opening_numbered, runs_numbered}
use Rattle.mg_safety.proofs.Messages.NumberedWorlds.{IsNumbered}
use Rattle.mg_alike.proofs.Events.Every.{events_alike, restarts_alike}
use Rattle.mg_alike.proofs.Events.Happening.{events_happen}
use Rattle.mg_alike.proofs.Events.Others.{others_alike, openings_alike}
use Rattle.mg_alike.proofs.Events.Kept.{step_of}

-- ---- runs

-- one event more
pub runs_on : (script : Script) (events : List Event) (w end next : World) (event : Event) → Runs script events w end → Occurs script end event next
    → Runs script (events ++ event ∷ []) w next
unfolding Runs
runs_on script [] w end next event runs occurs = (next, (subst (λ (x : World). Occurs script x event next) runs occurs, refl))
runs_on script (first ∷ more) w end next event (between, (happens, runs)) occurs = (between, (happens, runs_on script more between end next event runs occurs))

pub within_runs : (script : Script) (events : List Event) (w end : World) → RunsWithin script events w end → Runs script events w end
unfolding Runs RunsWithin
within_runs script [] w end runs = runs
within_runs script (event ∷ more) w end (left, (next, (occurs, runs))) = (next, (occurs, within_runs script more next end runs))

-- ---- a call that was retired stays retired

same_retired : (w after : World) (call : ℕ) → after.gateway.retired ≡ w.gateway.retired → w.gateway.retired call ≡ true → after.gateway.retired call ≡ true
same_retired w after call same is = ap (λ (retired : ℕ → Bool). retired call) same ∙ is

pub steps_retired : (w after : World) (one : ℕ) (step : Agent → Option Agent) → AgentSteps w one step after → after.gateway.retired ≡ w.gateway.retired
steps_retired w after one step s = ap (λ (x : World). x.gateway.retired) s.after_is

pub execute_retired : (w after : World) (request : Request) (chosen : Option ChosenRefusal) → Executes w request chosen after → after.gateway.retired ≡ w.gateway.retired
execute_retired w after request chosen (inl f) = ap (λ (x : World). x.gateway.retired) f.after_is ∙ ap (λ (g : Gateway). g.retired) f.executed.after_is
execute_retired w after request chosen (inr (inl f)) = ap (λ (x : World). x.gateway.retired) f.after_is
execute_retired w after request chosen (inr (inr f)) = ap (λ (x : World). x.gateway.retired) f.1

call_retired : (script : Script) (w after : World) (one call : ℕ) (happens : CallEvent) → OccursTo script w one happens after → w.gateway.retired call ≡ true
    → after.gateway.retired call ≡ true
call_retired script w after one call (to_call.OnLine line event) (held, o) is =
    same_retired w after call (ap (λ (x : World). x.gateway.retired) o.after_is ∙ ap (λ (g : Gateway). g.retired) o.happens.after_is) is
call_retired script w after one call (to_call.Execute number chosen) (request, of, executes) is =
    same_retired w after call (execute_retired w after request chosen executes) is
call_retired script w after one call (to_call.Begin old) b is =
    ap (λ (x : World). x.gateway.retired call) b.after_is ∙ either (call == old.0) (w.gateway.retired call) is
  where
    either : (test was : Bool) → was ≡ true → (if test then true else was) ≡ true
    either true was is = refl
    either false was is = is
call_retired script w after one call happens occurs is =
    same_retired w after call (steps_retired w after one _ (step_of script w after one happens tt occurs).1) is

pub event_retired : (script : Script) (w after : World) (call : ℕ) (event : Event) → Occurs script w event after → w.gateway.retired call ≡ true
    → after.gateway.retired call ≡ true
event_retired script w after call (OfCall one happens) occurs is = call_retired script w after one.0 call happens occurs is
event_retired script w after call Restart occurs is = same_retired w after call (ap (λ (x : World). x.gateway.retired) occurs.1) is

stays_retired : (script : Script) (events : List Event) (w end : World) (call : ℕ) → Runs script events w end → w.gateway.retired call ≡ true
    → end.gateway.retired call ≡ true
unfolding Runs
stays_retired script [] w end call runs is = ap (λ (x : World). x.gateway.retired call) runs ∙ is
stays_retired script (event ∷ more) w end call (next, (occurs, runs)) is =
    stays_retired script more next end call runs (event_retired script w next call event occurs is)

-- ---- events

-- a call that is open doesn't begin
pub not_beginning : (script : Script) (w after : World) (call : ℕ) (a : Agent) → w.agent call ≡ Some a → (happens : CallEvent) → OccursTo script w call happens after
    → IsBeginning happens → ⊥
not_beginning script w after call a there (to_call.Begin old) b is = none_is_some a (sym b.unused ∙ there)
not_beginning script w after call a there _ occurs is = is

-- an event ends a call, or it doesn't
ends_or_not : (script : Script) (w after : World) (one call : ℕ) (happens : CallEvent) → OccursTo script w one happens after
    → (after.gateway.retired call ≡ true) ⊎ (IsRetiredBy happens call → ⊥)
ends_or_not script w after one call (to_call.Begin old) b = go (call == old.0) refl
  where
    go : (test : Bool) → (call == old.0) ≡ test → (after.gateway.retired call ≡ true) ⊎ (old.0 ≡ call → ⊥)
    go true e = inl (ap (λ (x : World). x.gateway.retired call) b.after_is ∙ ap (λ (test : Bool). if test then true else w.gateway.retired call) e)
    go false e = inr (λ is. eqb-false call old.0 e (sym is))
ends_or_not script w after one call _ occurs = inr (λ is. is)

-- ---- a run beside a run of the call alone

-- two worlds that are reached from two openings of one script
pub reached_both : (script : Script) (entries : List Entry) → IsScript script → All (IsEntryOf script) entries → NoneBroken script entries
    → (calls others : List Opened) (start lone : World) → IsOpening script calls start → IsOpening script others lone
    → (past history : List Event) (w v : World) → Runs script past start w → Runs script history lone v → AreReached script w v
reached_both script entries is_script listed none_broken calls others start lone opens also_opens past history w v runs also_runs = record {
  entries = entries;
  is_script = is_script;
  listed = listed;
  none_broken = none_broken;
  calls = calls;
  others = others;
  events = past;
  history = history;
  start = start;
  first = lone;
  opens = opens;
  also_opens = also_opens;
  runs = runs;
  also_runs = also_runs;
}

module _ (script : Script) (entries : List Entry) (is_script : IsScript script) (listed : All (IsEntryOf script) entries) (none_broken : NoneBroken script entries)
    (calls others : List Opened) (start lone : World) (opens : IsOpening script calls start) (also_opens : IsOpening script others lone) (enough : NeverRunsOut script lone) (call : ℕ) where
  -- the call stays open to the end, so no event ended it
  never_ended : (past : List Event) (w next end : World) (event : Event) (more : List Event) → Runs script past start w → Occurs script w event next
      → RunsWithin script more next end → (a : Agent) → end.agent call ≡ Some a → next.gateway.retired call ≡ true → ⊥
  never_ended past w next end event more runs occurs rest a there gone =
      let numbered : IsNumbered end =
      runs_numbered script more next end (event_numbered script w next event (runs_numbered script past start w (opening_numbered script calls start opens) runs) occurs)
      (within_runs script more next end rest) in
      not_both (stays_retired script more next end call (within_runs script more next end rest) gone) (numbered.open_calls call a there)

  alone : (rest : List Event) (w v end : World) (past history : List Event) → Runs script past start w → Runs script history lone v → TreatAlike w v call
      → RunsWithin script rest w end → (a : Agent) → end.agent call ≡ Some a → (last : World) × (Runs script (events_alone call rest) v last × TreatAlike end last call)
  unfolding Runs RunsWithin
  alone [] w v end past history runs also_runs treat within a there = (v, (refl, subst (λ (x : World). TreatAlike x v call) (sym within) treat))
  alone (Restart ∷ more) w v end past history runs also_runs treat (left, (next, (occurs, rest))) a there =
      let restarts : Occurs script v Restart (with_gateway v (restarted v.gateway)) =
      (subst (λ (n : ℕ). n < last_association) (sym treat.alike.association) occurs.0, refl) in
      let it = alone more next (with_gateway v (restarted v.gateway)) end (past ++ Restart ∷ []) (history ++ Restart ∷ []) (runs_on script past start w next Restart runs occurs)
      (runs_on script history lone v (with_gateway v (restarted v.gateway)) Restart also_runs restarts)
      (restarts_alike script w v call treat next (with_gateway v (restarted v.gateway)) occurs restarts) rest a there in
      (it.0, ((with_gateway v (restarted v.gateway), (restarts, it.1.0)), it.1.1))
  alone (OfCall one happens ∷ more) w v end past history runs also_runs treat (left, (next, (occurs, rest))) a there =
      by_call (one.0 == call) refl (alone more next)
    where
      at : AreReached script w v
      at = reached_both script entries is_script listed none_broken calls others start lone opens also_opens past history w v runs also_runs

      on : Runs script (past ++ OfCall one happens ∷ []) start next
      on = runs_on script past start w next (OfCall one happens) runs occurs

      by_call : (test : Bool) → (one.0 == call) ≡ test
          → ((v end : World) (past history : List Event) → Runs script past start next → Runs script history lone v → TreatAlike next v call
          → RunsWithin script more next end → (a : Agent) → end.agent call ≡ Some a → (last : World) × (Runs script (events_alone call more) v last × TreatAlike end last call))
          → (last : World) × (Runs script (if test then OfCall one happens ∷ events_alone call more else events_alone call more) v last × TreatAlike end last call)
      by_call true e later =
          let is : one.0 ≡ call = eqb-true one.0 call e in
          let own : OccursTo script w call happens next = subst (λ (n : ℕ). OccursTo script w n happens next) is occurs in
          let goes_on = not_beginning script w next call treat.one treat.alike.open_one happens own in
          let too = events_happen script w v at left (enough history v also_runs) call happens goes_on treat next own in
          let also : Occurs script v (OfCall one happens) too.0 = subst (λ (n : ℕ). OccursTo script v n happens too.0) (sym is) too.1 in
          let it = later too.0 end (past ++ OfCall one happens ∷ []) (history ++ OfCall one happens ∷ []) on
          (runs_on script history lone v too.0 (OfCall one happens) also_runs also)
          (events_alike script w v at left (enough history v also_runs) call happens goes_on treat next too.0 own too.1) rest a there in
          (it.0, ((too.0, (also, it.1.0)), it.1.1))
      by_call false e later = elim (ends_or_not script w next one.0 call happens occurs) [
        | inl gone ↦ absurd (never_ended past w next end (OfCall one happens) more runs occurs rest a there gone)
        | inr stays ↦ later v end (past ++ OfCall one happens ∷ []) history on also_runs
            (others_alike script w v at call one.0 happens (eqb-false one.0 call e) stays treat next occurs) rest a there
      ]

pub calls_isolated : CallsAreIsolated
unfolding Runs
calls_isolated script entries is_script listed none_broken calls one events start end lone among opens also_opens within enough a there =
    let it = alone script entries is_script listed none_broken calls (one ∷ []) start lone opens also_opens enough one.call events start lone end [] [] refl refl
    (openings_alike script calls (one ∷ []) one start lone opens also_opens among (only_here one)) within a there in
    record { last = it.0; runs = it.1.0; alike = it.1.1 }

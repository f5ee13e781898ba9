-- A log goes on by one entry: what it tells, what is counted of it, and the restarts of each call in it.
use Rattle.std.proofs.Common.{◌≡◌, ◌∙◌, ◌+◌, ◌++◌, inl, inr, ℕ, suc, Bool, true, false, List, [], ◌∷◌, Option, Some, None, refl, sym, ap, subst, arith, append_assoc}
use Rattle.std.specs.Prelude.{◌==◌, if◌then◌else◌}
use Rattle.mg_names.specs.declared.identifiers.CallNo.{CallNo}
use Rattle.mg_model.specs.declared.events.CallEvent.{CallEvent}
use Rattle.mg_model.specs.declared.events.CallEvent.TheVariants as to_call
use Rattle.mg_model.specs.declared.events.Event.{Event}
use Rattle.mg_model.specs.declared.events.Event.TheVariants.{OfCall, Restart}
use Rattle.mg_model.specs.declared.plans.PlanStep.{PlanStep}
use Rattle.mg_model.specs.declared.plans.PlanStep.TheVariants.{Restarts}
use Rattle.mg_model.specs.Numbers.{the_call}
use Rattle.mg_model.specs.Plans.{number_begun, restarts_among}
use Rattle.mg_model.specs.Script.{Script}
use Rattle.mg_model.specs.Shards.{restarts_in}
use Rattle.mg_model.specs.World.{Runs, World}
use Rattle.mg_reports.proofs.Meanings.{IsKind, kind_of}
use Rattle.mg_reports.specs.Logs.{Counted, LogEntry, LogRuns, StepTaken, count_step, counted, epoch_ended, restarted, restarts_logged, steps_logged, took}
use Rattle.planned_calls.specs.Taking.{happened}
use Rattle.run_shards.specs.Counting.{all_restarts_logged, ends_logged, epochs_logged, events_logged}

-- ---- one entry more

-- what happened in the entries, and then in one more
pub runs_more : (script : Script) (log : List LogEntry) (entry : LogEntry) (w mid end : World) → LogRuns script log w mid
    → LogRuns script (entry ∷ []) mid end → LogRuns script (log ++ entry ∷ []) w end
unfolding LogRuns
runs_more script [] entry w mid end runs last = subst (λ (x : World). LogRuns script (entry ∷ []) x end) runs last
runs_more script (took first step state told ∷ more) entry w mid end (left, (after, (taken, rest))) last =
    (left, (after, (taken, runs_more script more entry after mid end rest last)))
runs_more script (epoch_ended ∷ more) entry w mid end (left, (after, (occurs, rest))) last =
    (left, (after, (occurs, runs_more script more entry after mid end rest last)))
runs_more script (restarted by ∷ more) entry w mid end (left, (after, (occurs, rest))) last =
    (left, (after, (occurs, runs_more script more entry after mid end rest last)))

-- a step or none goes before what comes later
pub later_steps : (test : Bool) (step : PlanStep) (steps last all : List PlanStep) → all ≡ steps ++ last
    → (if test then step ∷ all else all) ≡ (if test then step ∷ steps else steps) ++ last
later_steps true step steps last all e = ap (λ (s : List PlanStep). step ∷ s) e
later_steps false step steps last all e = e

pub steps_more : (first : ℕ) (log : List LogEntry) (entry : LogEntry) → steps_logged first (log ++ entry ∷ []) ≡ steps_logged first log ++ steps_logged first (entry ∷ [])
steps_more first [] entry = refl
steps_more first (took other step state told ∷ more) entry =
    later_steps (other == first) step (steps_logged first more) (steps_logged first (entry ∷ [])) (steps_logged first (more ++ entry ∷ [])) (steps_more first more entry)
steps_more first (epoch_ended ∷ more) entry = ap (λ (s : List PlanStep). Restarts ∷ s) (steps_more first more entry)
steps_more first (restarted by ∷ more) entry =
    later_steps (by == first) Restarts (steps_logged first more) (steps_logged first (entry ∷ [])) (steps_logged first (more ++ entry ∷ [])) (steps_more first more entry)

pub counted_more : (script : Script) (first : ℕ) (log : List LogEntry) (entry : LogEntry) (c : Counted)
    → counted script first (log ++ entry ∷ []) c ≡ counted script first (entry ∷ []) (counted script first log c)
counted_more script first [] entry c = refl
counted_more script first (took other step state told ∷ more) entry c =
    counted_more script first more entry (if other == first then count_step script step state told c else c)
counted_more script first (epoch_ended ∷ more) entry c = counted_more script first more entry c
counted_more script first (restarted by ∷ more) entry c = counted_more script first more entry c

pub epochs_more : (log : List LogEntry) (entry : LogEntry) → epochs_logged (log ++ entry ∷ []) ≡ epochs_logged log + epochs_logged (entry ∷ [])
epochs_more [] entry = let same : epochs_logged (entry ∷ []) ≡ 0 + epochs_logged (entry ∷ []) = omega arith in same
epochs_more (took first step state told ∷ more) entry = epochs_more more entry
epochs_more (epoch_ended ∷ more) entry =
    let on = epochs_more more entry in
    let all : suc (epochs_logged (more ++ entry ∷ [])) ≡ suc (epochs_logged more) + epochs_logged (entry ∷ []) = omega (arith, on) in
    all
epochs_more (restarted by ∷ more) entry = epochs_more more entry

pub restarts_more : (log : List LogEntry) (entry : LogEntry)
    → all_restarts_logged (log ++ entry ∷ []) ≡ all_restarts_logged log + all_restarts_logged (entry ∷ [])
restarts_more [] entry = let same : all_restarts_logged (entry ∷ []) ≡ 0 + all_restarts_logged (entry ∷ []) = omega arith in same
restarts_more (took first step state told ∷ more) entry = restarts_more more entry
restarts_more (epoch_ended ∷ more) entry = restarts_more more entry
restarts_more (restarted by ∷ more) entry =
    let on = restarts_more more entry in
    let all : suc (all_restarts_logged (more ++ entry ∷ [])) ≡ suc (all_restarts_logged more) + all_restarts_logged (entry ∷ []) = omega (arith, on) in
    all

pub ends_more : (asked : ℕ) (log : List LogEntry) (entry : LogEntry)
    → ends_logged asked (log ++ entry ∷ []) ≡ ends_logged asked log ++ ends_logged (asked + all_restarts_logged log) (entry ∷ [])
ends_more asked [] entry = ap (λ (n : ℕ). ends_logged n (entry ∷ [])) (let same : asked ≡ asked + 0 = omega arith in same)
ends_more asked (took first step state told ∷ more) entry = ends_more asked more entry
ends_more asked (epoch_ended ∷ more) entry = ap (λ (ends : List ℕ). asked ∷ ends) (ends_more asked more entry)
ends_more asked (restarted by ∷ more) entry =
    ends_more (suc asked) more entry
    ∙ ap (λ (n : ℕ). ends_logged (suc asked) more ++ ends_logged n (entry ∷ []))
    (let same : suc asked + all_restarts_logged more ≡ asked + suc (all_restarts_logged more) = omega arith in same)

-- ---- events

pub events_more : (log : List LogEntry) (entry : LogEntry) → events_logged (log ++ entry ∷ []) ≡ events_logged log ++ events_logged (entry ∷ [])
events_more [] entry = refl
events_more (took first step state told ∷ more) entry =
    ap (λ (events : List Event). happened told ++ events) (events_more more entry)
    ∙ sym (append_assoc (happened told) (events_logged more) (events_logged (entry ∷ [])))
events_more (epoch_ended ∷ more) entry = ap (λ (events : List Event). Restart ∷ events) (events_more more entry)
events_more (restarted by ∷ more) entry = ap (λ (events : List Event). Restart ∷ events) (events_more more entry)

-- what happened is a run
pub runs_of_log : (script : Script) (log : List LogEntry) (w end : World) → LogRuns script log w end → Runs script (events_logged log) w end
unfolding LogRuns Runs
runs_of_log script [] w end runs = runs
runs_of_log script (took first step state (Some event) ∷ more) w end (left, (after, (taken, rest))) =
    (after, (taken.comes.1, runs_of_log script more after end rest))
runs_of_log script (took first step state None ∷ more) w end (left, (after, (taken, rest))) =
    subst (λ (x : World). Runs script (events_logged more) x end) taken.comes.0 (runs_of_log script more after end rest)
runs_of_log script (epoch_ended ∷ more) w end (left, (after, (occurs, rest))) = (after, (occurs, runs_of_log script more after end rest))
runs_of_log script (restarted by ∷ more) w end (left, (after, (occurs, rest))) = (after, (occurs, runs_of_log script more after end rest))

of_a_call : (call : CallNo) (happens : CallEvent) (event : Event) (more : List Event) → event ≡ OfCall call happens → restarts_in (event ∷ more) ≡ restarts_in more
unfolding restarts_in
of_a_call call happens event more is = ap (λ (e : Event). restarts_in (e ∷ more)) is

-- a step of the plan is no restart
no_restart_told : (script : Script) (w after : World) (first : ℕ) (step : PlanStep) (state : ℕ) (told : Option Event) → StepTaken script w first step state told after
    → (more : List Event) → restarts_in (happened told ++ more) ≡ restarts_in more
no_restart_told script w after first step state None taken more = refl
no_restart_told script w after first step state (Some event) taken more = by_kind (kind_of w taken.agent next step event taken.comes.0)
  where
    next : ℕ
    next = number_begun first (taken.begun + 1)

    by_kind : IsKind taken.agent next step event → restarts_in (event ∷ more) ≡ restarts_in more
    by_kind (inl own) = of_a_call (the_call taken.agent.call) own.happens event more own.is
    by_kind (inr (inl begins)) = of_a_call (the_call next) (to_call.Begin (the_call taken.agent.call)) event more begins.1
    by_kind (inr (inr restarts)) = absurd (taken.no_restart restarts.0)

-- its restarts are the ends of epochs and those that calls asked for
pub restarts_of_log : (script : Script) (log : List LogEntry) (w end : World) → LogRuns script log w end
    → restarts_in (events_logged log) ≡ epochs_logged log + all_restarts_logged log
unfolding LogRuns restarts_in
restarts_of_log script [] w end runs = refl
restarts_of_log script (took first step state told ∷ more) w end (left, (after, (taken, rest))) =
    no_restart_told script w after first step state told taken (events_logged more) ∙ restarts_of_log script more after end rest
restarts_of_log script (epoch_ended ∷ more) w end (left, (after, (occurs, rest))) =
    let on = restarts_of_log script more after end rest in
    let all : suc (restarts_in (events_logged more)) ≡ suc (epochs_logged more) + all_restarts_logged more = omega (arith, on) in
    all
restarts_of_log script (restarted by ∷ more) w end (left, (after, (occurs, rest))) =
    let on = restarts_of_log script more after end rest in
    let all : suc (restarts_in (events_logged more)) ≡ epochs_logged more + suc (all_restarts_logged more) = omega (arith, on) in
    all

-- ---- restarts

no_restart_first : (step : PlanStep) (steps : List PlanStep) → (step ≡ Restarts → ⊥) → restarts_among (step ∷ steps) ≡ restarts_among steps
no_restart_first Restarts steps other = absurd (other refl)
no_restart_first step steps other = refl

own_or_others : (test : Bool) (steps : List PlanStep) (others all : ℕ) → restarts_among steps + others ≡ all
    → restarts_among (if test then Restarts ∷ steps else steps) + (if test then others else suc others) ≡ suc all
own_or_others true steps others all e = let more : suc (restarts_among steps) + others ≡ suc all = omega (arith, e) in more
own_or_others false steps others all e = let more : restarts_among steps + suc others ≡ suc all = omega (arith, e) in more

step_first : (test : Bool) (step : PlanStep) (steps : List PlanStep) → (step ≡ Restarts → ⊥)
    → restarts_among (if test then step ∷ steps else steps) ≡ restarts_among steps
step_first true step steps other = no_restart_first step steps other
step_first false step steps other = refl

-- the restarts among a call's steps are the ends of epochs and those that it asked for
pub own_restarts : (script : Script) (first : ℕ) (log : List LogEntry) (w end : World) → LogRuns script log w end
    → restarts_among (steps_logged first log) + restarts_logged first log ≡ epochs_logged log + all_restarts_logged log
unfolding LogRuns
own_restarts script first [] w end runs = refl
own_restarts script first (took other step state told ∷ more) w end (left, (after, (taken, rest))) =
    ap (λ (n : ℕ). n + restarts_logged first more) (step_first (other == first) step (steps_logged first more) taken.no_restart)
    ∙ own_restarts script first more after end rest
own_restarts script first (epoch_ended ∷ more) w end (left, (after, (occurs, rest))) =
    let on = own_restarts script first more after end rest in
    let all : suc (restarts_among (steps_logged first more)) + restarts_logged first more ≡ suc (epochs_logged more) + all_restarts_logged more = omega (arith, on) in
    all
own_restarts script first (restarted by ∷ more) w end (left, (after, (occurs, rest))) =
    let on = own_restarts script first more after end rest in
    own_or_others (by == first) (steps_logged first more) (restarts_logged first more) (epochs_logged more + all_restarts_logged more) on
    ∙ (let all : suc (epochs_logged more + all_restarts_logged more) ≡ epochs_logged more + suc (all_restarts_logged more) = omega arith in all)

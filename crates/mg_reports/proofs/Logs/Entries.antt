-- A call of a plan goes among others by the entries of a log: by its own steps and the restarts, with the events of others beside them.
use Rattle.std.proofs.Common.{◌≡◌, ◌<◌, ℕ, suc, Bool, true, false, List, [], ◌∷◌, length, Option, Some, None, refl, sym, ap, subst}
use Rattle.std.specs.Prelude.{◌==◌, if◌then◌else◌}
use Rattle.std.proofs.lemmas.Bool.{eqb-true, eqb-false}
use Rattle.mg_model.specs.declared.events.Event.{Event}
use Rattle.mg_model.specs.declared.events.Event.TheVariants.{Restart}
use Rattle.mg_model.specs.declared.plans.PlanStep.{PlanStep}
use Rattle.mg_model.specs.declared.plans.PlanStep.TheVariants.{Restarts}
use Rattle.mg_model.specs.Numbers.{plan_calls}
use Rattle.mg_model.specs.Plans.{number_begun}
use Rattle.mg_model.specs.Script.{Script}
use Rattle.mg_model.specs.Shards.{HasIdentifiersLeft}
use Rattle.mg_model.specs.World.{World, Occurs}
use Rattle.mg_safety.proofs.Messages.NamedMessages.{event_numbered}
use Rattle.mg_safety.proofs.Messages.NumberedWorlds.{IsNumbered}
use Rattle.mg_reports.specs.Among.{GoesAmong}
use Rattle.mg_reports.specs.Logs.{Counted, LogEntry, LogRuns, StepTaken, count_step, counted, epoch_ended, restarted, restarts_logged, steps_logged, took}
use Rattle.mg_reports.proofs.Logs.Counts.{as_counted}
use Rattle.mg_reports.proofs.Logs.Standing.{IsOpen}
use Rattle.mg_reports.proofs.Logs.Others.{stands_beside, taken_beside}
use Rattle.mg_reports.proofs.Logs.Turns.{GoesOn, StandsAt, own_turn, restart_turn, restarts_goes, stands_own, taken_goes}

module _ (script : Script) (first : ℕ) (small : first < plan_calls) where
  -- it goes on by the later entries
  abbrev GoesLater : List LogEntry → World → World → Counted → Type 0
  GoesLater more w end c =
      StandsAt first w c → LogRuns script more w end
      → GoesOn script first w end c (counted script first more c) (steps_logged first more) (restarts_logged first more)

  module _ (w after end : World) (c : Counted) (at : StandsAt first w c) (left : HasIdentifiersLeft w) (more : List LogEntry) where
    -- a step of its own, or one of another call
    after_taken : (other : ℕ) (step : PlanStep) (state : ℕ) (told : Option Event) → StepTaken script w other step state told after
        → LogRuns script more after end → ((d : Counted) → GoesLater more after end d)
        → GoesOn script first w end c (counted script first (took other step state told ∷ more) c) (steps_logged first (took other step state told ∷ more))
        (restarts_logged first more)
    after_taken other step state told t rest later = by_first (other == first) refl
      where
        taken_numbered : (told : Option Event) → StepTaken script w other step state told after → IsNumbered after
        taken_numbered (Some event) t = event_numbered script w after event at.numbered t.comes.1
        taken_numbered None t = subst IsNumbered (sym t.comes.0) at.numbered

        own_taken : other ≡ first
            → GoesOn script first w end c (counted script first more (count_step script step state told c)) (step ∷ steps_logged first more) (restarts_logged first more)
        own_taken e =
            let mine = subst (λ (n : ℕ). StepTaken script w n step state told after) e t in
            let d = count_step script step state told c in
            let goes = taken_goes script first small w after c at step state told mine in
            own_turn script first small w after c at step d left goes end (counted script first more d) (steps_logged first more) (restarts_logged first more)
            (later d (stands_own script first small w after c at step d (taken_numbered told t) goes) rest)

        by_first : (test : Bool) → (other == first) ≡ test
            → GoesOn script first w end c (counted script first more (if test then count_step script step state told c else c))
            (if test then step ∷ steps_logged first more else steps_logged first more) (restarts_logged first more)
        by_first true e = own_taken (eqb-true other first e)
        by_first false e =
            let differ = eqb-false other first e in
            taken_beside script first small w after c at other differ step state told t end (counted script first more c) (steps_logged first more) (restarts_logged first more)
            (later c (stands_beside script first small w after c at other differ step state told t) rest)

    -- a restart of its own steps
    after_own_restart : Occurs script w Restart after → LogRuns script more after end → GoesLater more after end c
        → GoesOn script first w end c (counted script first more c) (Restarts ∷ steps_logged first more) (restarts_logged first more)
    after_own_restart occurs rest later =
        let goes = restarts_goes script first small w after c at occurs in
        own_turn script first small w after c at Restarts c left goes end (counted script first more c) (steps_logged first more) (restarts_logged first more)
        (later (stands_own script first small w after c at Restarts c (event_numbered script w after Restart at.numbered occurs) goes) rest)

    -- a restart that it asked for, or another call
    after_restart : (by : ℕ) → Occurs script w Restart after → LogRuns script more after end → GoesLater more after end c
        → GoesOn script first w end c (counted script first more c) (steps_logged first (restarted by ∷ more)) (restarts_logged first (restarted by ∷ more))
    after_restart by occurs rest later = by_first (by == first)
      where
        stays : StandsAt first after c
        stays = stands_own script first small w after c at Restarts c (event_numbered script w after Restart at.numbered occurs)
            (restarts_goes script first small w after c at occurs)

        by_first : (test : Bool)
            → GoesOn script first w end c (counted script first more c) (if test then Restarts ∷ steps_logged first more else steps_logged first more)
            (if test then restarts_logged first more else suc (restarts_logged first more))
        by_first true = after_own_restart occurs rest later
        by_first false = restart_turn script first small w after c occurs end (counted script first more c) (steps_logged first more) (restarts_logged first more) (later stays rest)

  -- all entries
  pub goes_logged : (log : List LogEntry) (w end : World) (c : Counted) → GoesLater log w end c
  unfolding GoesAmong LogRuns
  goes_logged [] w end c at runs = record {
    turns = [];
    steps_are = refl;
    others_are = refl;
    goes = ap (λ (x : World). as_counted first x c) runs;
    stands = subst (λ (x : World). IsOpen x (number_begun first (length c.retired))) (sym runs) at.stands;
  }
  goes_logged (took other step state told ∷ more) w end c at (left, (after, (taken, rest))) =
      after_taken w after end c at left more other step state told taken rest (goes_logged more after end)
  goes_logged (epoch_ended ∷ more) w end c at (left, (after, (occurs, rest))) =
      after_own_restart w after end c at left more occurs rest (goes_logged more after end c)
  goes_logged (restarted by ∷ more) w end c at (left, (after, (occurs, rest))) =
      after_restart w after end c at left more by occurs rest (goes_logged more after end c)

-- What is counted of a shard is what a log counts: of one in which nothing happened, and after a step, a restart or the end of an epoch.
use Rattle.std.proofs.Common.{◌≡◌, ◌∙◌, ◌+◌, ◌≤◌, ◌++◌, ℕ, zero, suc, Bool, true, false, List, [], ◌∷◌, length, map, Some, refl, sym, ap, subst, arith}
use Rattle.std.specs.Prelude.{◌%◌, ◌==◌, if◌then◌else◌, slice_get, slice_index_or}
use Rattle.std.proofs.lemmas.Bool.{eqb-true, eqb-false}
use Rattle.std.proofs.lemmas.List.{append-nil}
use Rattle.identifiers.specs.Class.{is_of_class}
use Rattle.mg_model.specs.declared.events.Event.{Event}
use Rattle.mg_model.specs.declared.events.Event.TheVariants.{Restart}
use Rattle.mg_model.specs.declared.plans.PlanStep.{PlanStep}
use Rattle.mg_model.specs.declared.plans.PlanStep.TheVariants.{Restarts}
use Rattle.mg_model.specs.Plans.{PlanCall}
use Rattle.mg_model.specs.Script.{Script}
use Rattle.mg_model.specs.World.{World, IsOpening, Occurs, Opened, Runs}
use Rattle.mg_merge.specs.Identifiers.{executes_in, most_executes}
use Rattle.mg_reports.specs.Logs.{Counted, LogEntry, LogRuns, StepTaken, count_step, counted, epoch_ended, none_counted, restarted, steps_logged, took}
use Rattle.planned_calls.specs.Lasting.{IdentifiersAreLeft}
use Rattle.planned_calls.specs.Shards.{HasHappened, HasSameOpening, IsShard, IsWorldOf, ShardValue, opened_as}
use Rattle.planned_calls.specs.Counts.{counts_of}
use Rattle.planned_calls.specs.Parts.{opened_in}
use Rattle.planned_calls.specs.RunShards.{IsOfRun}
use Rattle.planned_calls.specs.Taking.{happened}
use Rattle.planned_calls.specs.declared.call_count.CallCount.{CallCount}
use Rattle.run_shards.proofs.CountedPlaces.{all_at}
use Rattle.run_shards.proofs.EpochSteps.{call_advances, end_taken, entry_taken}
use Rattle.run_shards.proofs.LogLemmas.{counted_more, ends_more, epochs_more, events_more, restarts_more, runs_more, steps_more}
use Rattle.run_shards.proofs.StepLemmas.{at_call, steps_advance, steps_ended}
use Rattle.run_shards.specs.Counting.{AreNoneCounted, IsAskedOf, IsCounted, IsLogged, IsNextCount, TakesEnd, TakesRestart, TakesStep, all_restarts_logged, ends_logged, epochs_logged, events_logged, place_of, steps_so_far, steps_taken, taken_so_far}
use Rattle.run_shards.specs.PlanSteps.{step_at}
use Rattle.run_shards.specs.declared.shard_count.ShardCount.{ShardCount}

-- ---- histories

executes_behind : (history events : List Event) → executes_in history ≤ executes_in (history ++ events)
unfolding executes_in
executes_behind [] events = omega arith
executes_behind (event ∷ more) events = omega (arith, executes_behind more events)

few_before : (v w : ShardValue) (events : List Event) → w.history ≡ v.history ++ events → executes_in w.history ≤ most_executes → executes_in v.history ≤ most_executes
few_before v w events is few =
    let here : executes_in w.history ≡ executes_in (v.history ++ events) = ap executes_in is in
    let behind = executes_behind v.history events in
    omega (arith, few, here, behind)

-- ---- the shard

pub still_of_run : (script : Script) (calls : List PlanCall) (count number : ℕ) (v w : ShardValue) → HasSameOpening v w → IsOfRun script calls count number v
    → IsOfRun script calls count number w
still_of_run script calls count number v w same is = record {
  of_script = same.script ∙ is.of_script;
  of_count = same.stride ∙ is.of_count;
  of_number = same.first ∙ is.of_number;
  of_calls = ap (λ calls. map opened_as calls) same.calls ∙ is.of_calls;
}

-- where nothing happened the run is where it started
nothing_logged : (script other : Script) (history : List Event) (start end : World) → history ≡ [] → Runs other history start end → LogRuns script [] start end
unfolding LogRuns Runs
nothing_logged script other history start end none runs = subst (λ (events : List Event). Runs other events start end) none runs

nothing_taken : (epochs : List (List PlanStep)) (place epoch at : ℕ) → place ≡ 0 → epoch ≡ 0 → [] ≡ taken_so_far epoch place epochs at
unfolding taken_so_far
nothing_taken epochs place epoch at no_place no_epoch =
    at_first at ∙ sym (ap (λ (n : ℕ). taken_so_far n place epochs at) no_epoch ∙ ap (λ (n : ℕ). taken_so_far 0 n epochs at) no_place)
  where
    at_first : (k : ℕ) → [] ≡ taken_so_far 0 0 epochs k
    at_first zero = refl
    at_first (suc k) = refl

no_steps : (epochs : List (List PlanStep)) (place epoch : ℕ) → place ≡ 0 → epoch ≡ 0 → [] ≡ steps_so_far epoch place epochs
unfolding steps_so_far
no_steps epochs place epoch no_place no_epoch =
    sym (ap (λ (n : ℕ). steps_so_far n place epochs) no_epoch ∙ ap (λ (n : ℕ). steps_so_far 0 n epochs) no_place)

-- nothing is counted at first
pub new_counted : (v : ShardValue) (c : ShardCount) → IsShard v → v.history ≡ [] → AreNoneCounted c.counts.items
    → ((first : ℕ) → place_of c first ≡ 0) → c.epoch ≡ 0 → c.restarts ≡ 0 → c.ends.items ≡ []
    → (script : Script) (calls : List PlanCall) (count number : ℕ) → length c.counts.items ≡ length calls → length c.places.items ≡ length calls
    → IsOfRun script calls count number v → IsCounted script calls count number v c
new_counted v c is none no_counts no_places epoch restarts ends script calls count number all_counts all_places of_run = record {
  all_counts = all_counts;
  all_places = all_places;
  logged = λ whole. record {
    log = [];
    start = is.is_world.start;
    end = is.world;
    opens = subst (λ (s : Script). IsOpening s (opened_in count number 0 calls) is.is_world.start) of_run.of_script
        (subst (λ (os : List Opened). IsOpening v.script os is.is_world.start) of_run.of_calls is.is_world.opens);
    class = is.is_world.class ∙ ap (λ (n : ℕ). is_of_class n v.stride) of_run.of_number ∙ ap (λ (n : ℕ). is_of_class number n) of_run.of_count;
    shown = is.is_world;
    events = none;
    runs = λ few. nothing_logged script v.script v.history is.is_world.start is.world none is.is_world.runs;
    epochs = sym epoch;
    restarts = sym restarts;
    ends = sym ends;
    counts = λ first k at. sym (all_at (λ (j : CallCount). (s : Script) → counts_of s j ≡ none_counted) c.counts.items first k no_counts at script);
    steps = λ first call at own. no_steps call.epochs (place_of c first) c.epoch (no_places first) epoch;
    taken = λ first call is own at. nothing_taken call.epochs (place_of c first) c.epoch at (no_places first) epoch;
  };
}

-- ---- one entry more

module _ (script : Script) (calls : List PlanCall) (count number : ℕ) (v : ShardValue) (of_script : v.script ≡ script) (c : ShardCount) (w : ShardValue) (d : ShardCount) where
  -- an entry that ends no epoch
  no_end_on : (l : IsLogged script calls count number v c) (entry : LogEntry) → d.ends.items ≡ c.ends.items
      → ends_logged (0 + all_restarts_logged l.log) (entry ∷ []) ≡ [] → ends_logged 0 (l.log ++ entry ∷ []) ≡ d.ends.items
  no_end_on l entry same none =
      ends_more 0 l.log entry ∙ ap (λ (ends : List ℕ). ends_logged 0 l.log ++ ends) none ∙ append-nil (ends_logged 0 l.log) ∙ l.ends ∙ sym same

  -- what was counted stays counted for another call, and goes on for this one
  module _ (l : IsLogged script calls count number v c) (entry : LogEntry) (after : World) (shown : IsWorldOf w after) where
    abbrev longer : List LogEntry
    longer = l.log ++ entry ∷ []

    pub runs_on : (executes_in w.history ≤ most_executes → executes_in v.history ≤ most_executes)
        → (executes_in v.history ≤ most_executes → LogRuns script (entry ∷ []) l.end after)
        → executes_in w.history ≤ most_executes → LogRuns script longer l.start after
    runs_on few last so_few = runs_more script l.log entry l.start l.end after (l.runs (few so_few)) (last (few so_few))

    pub events_on : (events : List Event) → w.history ≡ v.history ++ events → events_logged (entry ∷ []) ≡ events → w.history ≡ events_logged longer
    events_on events is here =
        is ∙ ap (λ (es : List Event). es ++ events) l.events ∙ ap (λ (es : List Event). events_logged l.log ++ es) (sym here)
        ∙ sym (events_more l.log entry)

  -- ---- a step

  module _ (x : TakesStep calls v c w d) (l : IsLogged script calls count number v c) where
    abbrev step : PlanStep
    step = x.step

    abbrev entry : LogEntry
    entry = took x.first step x.told.state x.told.event

    led : (after : World) × (StepTaken v.script l.end x.first step x.told.state x.told.event after × IsWorldOf w after)
    led = x.taken.worlds l.end l.shown

    last_runs : executes_in v.history ≤ most_executes → LogRuns script (entry ∷ []) l.end led.0
    unfolding LogRuns
    last_runs few = (
      x.left l.end l.shown few,
      (led.0, (subst (λ (s : Script). StepTaken s l.end x.first step x.told.state x.told.event led.0) of_script led.1.0, refl)),
    )

    count_on : (first : ℕ) (k : CallCount) → slice_get d.counts.items first ≡ Some k
        → counted script first (l.log ++ entry ∷ []) none_counted ≡ counts_of script k
    count_on first k at =
        let one = x.counts first k at in
        counted_more script first l.log entry none_counted
        ∙ ap (λ (before : Counted). counted script first (entry ∷ []) before) (l.counts first one.0 one.1.0)
        ∙ by_test (x.first == first) one.0 one.1.1
      where
        by_test : (test : Bool) (j : CallCount) → IsNextCount step x.told test j k
            → (if test then count_step script step x.told.state x.told.event (counts_of script j) else counts_of script j) ≡ counts_of script k
        by_test true j next = sym (next script)
        by_test false j next = ap (counts_of script) (sym next)

    steps_on : (first : ℕ) (call : PlanCall) → slice_get calls first ≡ Some call → first % count ≡ number
        → steps_logged first (l.log ++ entry ∷ []) ≡ steps_so_far d.epoch (place_of d first) call.epochs
    steps_on first call at own =
        steps_more first l.log entry ∙ ap (λ (steps : List PlanStep). steps ++ steps_logged first (entry ∷ [])) (l.steps first call at own)
        ∙ by_test (x.first == first) refl ∙ ap (λ (n : ℕ). steps_so_far n (place_of d first) call.epochs) (sym x.epoch)
      where
        so_far : List PlanStep
        so_far = steps_so_far c.epoch (place_of c first) call.epochs

        advanced : x.first ≡ first → so_far ++ step ∷ [] ≡ steps_so_far c.epoch (place_of d first) call.epochs
        advanced same =
            sym (steps_advance calls first c.epoch (place_of c first) call step at
            (subst (λ (n : ℕ). step_at calls n c.epoch (place_of c n) ≡ Some step) same x.next))
            ∙ ap (λ (n : ℕ). steps_so_far c.epoch n call.epochs)
            (sym (subst (λ (n : ℕ). place_of d n ≡ place_of c n + 1) same x.places.raised))

        by_test : (test : Bool) → (x.first == first) ≡ test
            → so_far ++ (if test then step ∷ [] else []) ≡ steps_so_far c.epoch (place_of d first) call.epochs
        by_test true e = advanced (eqb-true x.first first e)
        by_test false e =
            append-nil so_far
            ∙ ap (λ (n : ℕ). steps_so_far c.epoch n call.epochs) (sym (x.places.others first (λ same. eqb-false x.first first e (sym same))))

    taken_on : (first : ℕ) (call : PlanCall) → slice_get calls first ≡ Some call → first % count ≡ number
        → (at : ℕ) → steps_taken first (l.log ++ entry ∷ []) at ≡ taken_so_far d.epoch (place_of d first) call.epochs at
    taken_on first call is own at =
        entry_taken first c.epoch (place_of c first) (place_of d first) call.epochs l.log entry l.epochs (l.taken first call is own)
        (by_test (x.first == first) refl) at
        ∙ ap (λ (n : ℕ). taken_so_far n (place_of d first) call.epochs at) (sym x.epoch)
      where
        so_far : ℕ → List PlanStep
        so_far place = taken_so_far c.epoch place call.epochs c.epoch

        by_test : (test : Bool) → (x.first == first) ≡ test → so_far (place_of d first) ≡ so_far (place_of c first) ++ (if test then step ∷ [] else [])
        by_test true e =
            let same : x.first ≡ first = eqb-true x.first first e in
            ap so_far (subst (λ (n : ℕ). place_of d n ≡ place_of c n + 1) same x.places.raised)
            ∙ call_advances calls first c.epoch (place_of c first) call step is
            (subst (λ (n : ℕ). step_at calls n c.epoch (place_of c n) ≡ Some step) same x.next)
        by_test false e =
            ap so_far (x.places.others first (λ same. eqb-false x.first first e (sym same))) ∙ sym (append-nil (so_far (place_of c first)))

    pub step_logged : IsLogged script calls count number w d
    step_logged = record {
      log = l.log ++ entry ∷ [];
      start = l.start;
      end = led.0;
      opens = l.opens;
      class = l.class;
      shown = led.1.1;
      events = events_on l entry led.0 led.1.1 (happened x.told.event) x.taken.history (append-nil (happened x.told.event));
      runs = runs_on l entry led.0 led.1.1 (few_before v w (happened x.told.event) x.taken.history) last_runs;
      epochs = epochs_more l.log entry ∙ (let same : epochs_logged l.log + 0 ≡ epochs_logged l.log = omega arith in same) ∙ l.epochs ∙ sym x.epoch;
      restarts = restarts_more l.log entry ∙ (let same : all_restarts_logged l.log + 0 ≡ all_restarts_logged l.log = omega arith in same) ∙ l.restarts
          ∙ sym x.restarts;
      ends = no_end_on l entry x.ends refl;
      counts = count_on;
      steps = steps_on;
      taken = taken_on;
    }

  -- ---- restarts

  module _ (is : HasHappened v w Restart) (left : IdentifiersAreLeft v) (l : IsLogged script calls count number v c) where
    pub led_on : (after : World) × (Occurs v.script l.end Restart after × IsWorldOf w after)
    led_on = is.worlds l.end l.shown

    occurs : Occurs script l.end Restart led_on.0
    occurs = subst (λ (s : Script). Occurs s l.end Restart led_on.0) of_script led_on.1.0

    pub asked_runs : (by : ℕ) → executes_in v.history ≤ most_executes → LogRuns script (restarted by ∷ []) l.end led_on.0
    unfolding LogRuns
    asked_runs by few = (left l.end l.shown few, (led_on.0, (occurs, refl)))

    pub ended_runs : executes_in v.history ≤ most_executes → LogRuns script (epoch_ended ∷ []) l.end led_on.0
    unfolding LogRuns
    ended_runs few = (left l.end l.shown few, (led_on.0, (occurs, refl)))

  module _ (by : ℕ) (is_own : Bool) (told : is_own ≡ false → by % count ≡ number → ⊥) (x : TakesRestart calls by is_own v c w d)
      (same : d.counts.items ≡ c.counts.items) (l : IsLogged script calls count number v c) where
    abbrev restart_entry : LogEntry
    restart_entry = restarted by

    restart_led : (after : World) × (Occurs v.script l.end Restart after × IsWorldOf w after)
    restart_led = led_on x.happened x.left l

    restart_steps : (first : ℕ) (call : PlanCall) → slice_get calls first ≡ Some call → first % count ≡ number
        → steps_logged first (l.log ++ restart_entry ∷ []) ≡ steps_so_far d.epoch (place_of d first) call.epochs
    restart_steps first call at own =
        steps_more first l.log restart_entry ∙ ap (λ (steps : List PlanStep). steps ++ steps_logged first (restart_entry ∷ [])) (l.steps first call at own)
        ∙ by_own is_own refl x.asks.asked (by == first) refl ∙ ap (λ (n : ℕ). steps_so_far n (place_of d first) call.epochs) (sym x.asks.epoch)
      where
        so_far : List PlanStep
        so_far = steps_so_far c.epoch (place_of c first) call.epochs

        advanced : by ≡ first → step_at calls by c.epoch (place_of c by) ≡ Some Restarts → place_of d by ≡ place_of c by + 1
            → so_far ++ Restarts ∷ [] ≡ steps_so_far c.epoch (place_of d first) call.epochs
        advanced is next raised =
            sym (steps_advance calls first c.epoch (place_of c first) call Restarts at
            (subst (λ (n : ℕ). step_at calls n c.epoch (place_of c n) ≡ Some Restarts) is next))
            ∙ ap (λ (n : ℕ). steps_so_far c.epoch n call.epochs) (sym (subst (λ (n : ℕ). place_of d n ≡ place_of c n + 1) is raised))

        by_own : (test : Bool) → is_own ≡ test → IsAskedOf calls by test c d → (mine : Bool) → (by == first) ≡ mine
            → so_far ++ (if mine then Restarts ∷ [] else []) ≡ steps_so_far c.epoch (place_of d first) call.epochs
        by_own true is asked true e = advanced (eqb-true by first e) asked.0 asked.1.raised
        by_own true is asked false e =
            append-nil so_far
            ∙ ap (λ (n : ℕ). steps_so_far c.epoch n call.epochs) (sym (asked.1.others first (λ same. eqb-false by first e (sym same))))
        by_own false is asked true e = absurd (told is (ap (λ (n : ℕ). n % count) (eqb-true by first e) ∙ own))
        by_own false is asked false e =
            append-nil so_far ∙ ap (λ (places : List ℕ). steps_so_far c.epoch (slice_index_or places first 0) call.epochs) (sym asked)

    restart_taken : (first : ℕ) (call : PlanCall) → slice_get calls first ≡ Some call → first % count ≡ number
        → (at : ℕ) → steps_taken first (l.log ++ restart_entry ∷ []) at ≡ taken_so_far d.epoch (place_of d first) call.epochs at
    restart_taken first call at own epoch =
        entry_taken first c.epoch (place_of c first) (place_of d first) call.epochs l.log restart_entry l.epochs (l.taken first call at own)
        (by_own is_own refl x.asks.asked (by == first) refl) epoch
        ∙ ap (λ (n : ℕ). taken_so_far n (place_of d first) call.epochs epoch) (sym x.asks.epoch)
      where
        so_far : ℕ → List PlanStep
        so_far place = taken_so_far c.epoch place call.epochs c.epoch

        advanced : by ≡ first → step_at calls by c.epoch (place_of c by) ≡ Some Restarts → place_of d by ≡ place_of c by + 1
            → so_far (place_of d first) ≡ so_far (place_of c first) ++ Restarts ∷ []
        advanced same next raised =
            ap so_far (subst (λ (n : ℕ). place_of d n ≡ place_of c n + 1) same raised)
            ∙ call_advances calls first c.epoch (place_of c first) call Restarts at
            (subst (λ (n : ℕ). step_at calls n c.epoch (place_of c n) ≡ Some Restarts) same next)

        by_own : (test : Bool) → is_own ≡ test → IsAskedOf calls by test c d → (mine : Bool) → (by == first) ≡ mine
            → so_far (place_of d first) ≡ so_far (place_of c first) ++ (if mine then Restarts ∷ [] else [])
        by_own true is asked true e = advanced (eqb-true by first e) asked.0 asked.1.raised
        by_own true is asked false e =
            ap so_far (asked.1.others first (λ same. eqb-false by first e (sym same))) ∙ sym (append-nil (so_far (place_of c first)))
        by_own false is asked true e = absurd (told is (ap (λ (n : ℕ). n % count) (eqb-true by first e) ∙ own))
        by_own false is asked false e =
            ap (λ (places : List ℕ). so_far (slice_index_or places first 0)) asked ∙ sym (append-nil (so_far (place_of c first)))

    pub restart_logged : IsLogged script calls count number w d
    unfolding restart_led led_on
    restart_logged = record {
      log = l.log ++ restart_entry ∷ [];
      start = l.start;
      end = restart_led.0;
      opens = l.opens;
      class = l.class;
      shown = restart_led.1.1;
      events = events_on l restart_entry restart_led.0 restart_led.1.1 (Restart ∷ []) x.happened.history refl;
      runs = runs_on l restart_entry restart_led.0 restart_led.1.1 (few_before v w (Restart ∷ []) x.happened.history) (asked_runs x.happened x.left l by);
      epochs = epochs_more l.log restart_entry ∙ (let same : epochs_logged l.log + 0 ≡ epochs_logged l.log = omega arith in same) ∙ l.epochs ∙ sym x.asks.epoch;
      restarts = restarts_more l.log restart_entry ∙ ap (λ (n : ℕ). n + 1) l.restarts ∙ sym x.asks.restarts;
      ends = no_end_on l restart_entry x.asks.ends refl;
      counts = λ first k at. counted_more script first l.log restart_entry none_counted
          ∙ l.counts first k (subst (λ (counts : List CallCount). slice_get counts first ≡ Some k) same at);
      steps = restart_steps;
      taken = restart_taken;
    }

  module _ (x : TakesEnd calls count number v c w d) (same : d.counts.items ≡ c.counts.items) (l : IsLogged script calls count number v c) where
    end_led : (after : World) × (Occurs v.script l.end Restart after × IsWorldOf w after)
    end_led = led_on x.happened x.left l

    pub end_logged : IsLogged script calls count number w d
    unfolding end_led led_on
    end_logged = record {
      log = l.log ++ epoch_ended ∷ [];
      start = l.start;
      end = end_led.0;
      opens = l.opens;
      class = l.class;
      shown = end_led.1.1;
      events = events_on l epoch_ended end_led.0 end_led.1.1 (Restart ∷ []) x.happened.history refl;
      runs = runs_on l epoch_ended end_led.0 end_led.1.1 (few_before v w (Restart ∷ []) x.happened.history) (ended_runs x.happened x.left l);
      epochs = epochs_more l.log epoch_ended ∙ ap (λ (n : ℕ). n + 1) l.epochs ∙ sym x.epoch;
      restarts = restarts_more l.log epoch_ended ∙ (let same : all_restarts_logged l.log + 0 ≡ all_restarts_logged l.log = omega arith in same) ∙ l.restarts
          ∙ sym x.restarts;
      ends = ends_more 0 l.log epoch_ended ∙ ap (λ (n : ℕ). ends_logged 0 l.log ++ n ∷ []) (let same : 0 + all_restarts_logged l.log ≡ all_restarts_logged l.log = omega arith in same ∙ l.restarts)
          ∙ ap (λ (ends : List ℕ). ends ++ c.restarts ∷ []) l.ends ∙ sym x.ends;
      counts = λ first k at. counted_more script first l.log epoch_ended none_counted
          ∙ l.counts first k (subst (λ (counts : List CallCount). slice_get counts first ≡ Some k) same at);
      steps = λ first call at own. steps_more first l.log epoch_ended
          ∙ ap (λ (steps : List PlanStep). steps ++ Restarts ∷ []) (l.steps first call at own)
          ∙ sym (steps_ended calls first c.epoch (place_of c first) call at (x.ended first own))
          ∙ ap (λ (n : ℕ). steps_so_far (c.epoch + 1) n call.epochs) (sym (x.places first))
          ∙ ap (λ (n : ℕ). steps_so_far n (place_of d first) call.epochs) (sym x.epoch);
      taken = λ first call at own epoch.
          end_taken first c.epoch (place_of c first) call.epochs l.log l.epochs (l.taken first call at own)
          (at_call calls first c.epoch (place_of c first) call at ∙ x.ended first own) epoch
          ∙ ap (λ (n : ℕ). taken_so_far n 0 call.epochs epoch) (let on : suc c.epoch ≡ c.epoch + 1 = omega arith in on ∙ sym x.epoch)
          ∙ ap (λ (n : ℕ). taken_so_far d.epoch n call.epochs epoch) (sym (x.places first));
    }

-- What a shard of a run counts of its calls, step after step. A reader should check that the steps that were taken in it make a log, by the plan's steps in their
-- order, and that what is counted of a call is what the log counts. This profile's own.
use Rattle.std.specs.Prelude.{◌≡◌, ℕ, zero, suc, ◌+◌, ◌≤◌, ◌%◌, ◌==◌, if◌then◌else◌, Bool, true, false, List, [], ◌∷◌, ◌++◌, length, take, Some, None, slice_get, slice_index_or}
use Rattle.std.specs.List.{All}
use Rattle.identifiers.specs.Class.{is_of_class}
use Rattle.mg_model.specs.declared.events.Event.{Event}
use Rattle.mg_model.specs.declared.events.Event.TheVariants.{Restart}
use Rattle.mg_model.specs.declared.plans.PlanStep.{PlanStep}
use Rattle.mg_model.specs.declared.plans.PlanStep.TheVariants.{Restarts}
use Rattle.mg_model.specs.Plans.{PlanCall, steps_first, steps_later}
use Rattle.mg_model.specs.Script.{Script}
use Rattle.mg_model.specs.World.{World, IsOpening}
use Rattle.mg_merge.specs.Identifiers.{executes_in, most_executes}
use Rattle.mg_reports.specs.Logs.{LogEntry, LogRuns, count_step, counted, epoch_ended, none_counted, restarted, steps_logged, took}
use Rattle.planned_calls.specs.Lasting.{IdentifiersAreLeft}
use Rattle.planned_calls.specs.Shards.{HasHappened, IsWorldOf, ShardValue}
use Rattle.planned_calls.specs.Counts.{counts_of}
use Rattle.planned_calls.specs.Parts.{opened_in}
use Rattle.planned_calls.specs.RunShards.{IsOfRun}
use Rattle.planned_calls.specs.Taking.{IsTaken, happened}
use Rattle.planned_calls.specs.declared.call_count.CallCount.{CallCount}
use Rattle.planned_calls.specs.declared.planned_call.TakenStep.{TakenStep}
use Rattle.run_shards.specs.PlanSteps.{step_at}
use Rattle.run_shards.specs.declared.shard_count.ShardCount.{ShardCount}

-- ---- steps

-- the steps of a call so far: those of the epochs before this one, with a restart at the end of each, and of this one those up to a place
unfoldable pub steps_so_far : (epoch place : ℕ) → List (List PlanStep) → List PlanStep
steps_so_far zero place epochs = take place (steps_first epochs)
steps_so_far (suc epoch) place epochs = steps_first epochs ++ Restarts ∷ steps_so_far epoch place (steps_later epochs)

-- how many steps of this epoch a call has taken
abbrev pub place_of : ShardCount → ℕ → ℕ
place_of c first = slice_index_or c.places.items first 0

-- ---- restarts in a log

abbrev pub epochs_logged : List LogEntry → ℕ
epochs_logged [] = 0
epochs_logged (took first step state told ∷ more) = epochs_logged more
epochs_logged (epoch_ended ∷ more) = suc (epochs_logged more)
epochs_logged (restarted by ∷ more) = epochs_logged more

abbrev pub all_restarts_logged : List LogEntry → ℕ
all_restarts_logged [] = 0
all_restarts_logged (took first step state told ∷ more) = all_restarts_logged more
all_restarts_logged (epoch_ended ∷ more) = all_restarts_logged more
all_restarts_logged (restarted by ∷ more) = suc (all_restarts_logged more)

-- ---- what a log says of a history and of a plan

-- the events of a log, in their order: those of steps that weren't idle, and the restarts
abbrev pub events_logged : List LogEntry → List Event
events_logged [] = []
events_logged (took first step state told ∷ more) = happened told ++ events_logged more
events_logged (epoch_ended ∷ more) = Restart ∷ events_logged more
events_logged (restarted by ∷ more) = Restart ∷ events_logged more

-- how many restarts calls had asked for at each end of an epoch, where they had asked for so many before
abbrev pub ends_logged : (asked : ℕ) → List LogEntry → List ℕ
ends_logged asked [] = []
ends_logged asked (took first step state told ∷ more) = ends_logged asked more
ends_logged asked (epoch_ended ∷ more) = asked ∷ ends_logged asked more
ends_logged asked (restarted by ∷ more) = ends_logged (suc asked) more

-- the steps that a call took in an epoch of all calls, from 0, the restarts that it asked for among them
abbrev pub steps_taken : (first : ℕ) → List LogEntry → (epoch : ℕ) → List PlanStep
steps_taken first [] epoch = []
steps_taken first (took other step state told ∷ more) zero = if other == first then step ∷ steps_taken first more zero else steps_taken first more zero
steps_taken first (epoch_ended ∷ more) zero = []
steps_taken first (restarted by ∷ more) zero = if by == first then Restarts ∷ steps_taken first more zero else steps_taken first more zero
steps_taken first (took other step state told ∷ more) (suc epoch) = steps_taken first more (suc epoch)
steps_taken first (epoch_ended ∷ more) (suc epoch) = steps_taken first more epoch
steps_taken first (restarted by ∷ more) (suc epoch) = steps_taken first more (suc epoch)

-- the steps of the plan's epoch at a place that a call has taken, in this epoch up to a place: all of those before it, and none of those behind it
unfoldable pub taken_so_far : (epoch place : ℕ) → List (List PlanStep) → (at : ℕ) → List PlanStep
taken_so_far zero place epochs zero = take place (steps_first epochs)
taken_so_far zero place epochs (suc at) = []
taken_so_far (suc epoch) place epochs zero = steps_first epochs
taken_so_far (suc epoch) place epochs (suc at) = taken_so_far epoch place (steps_later epochs) at

-- ---- a shard

-- a log of what happened in a shard, from an opening of its calls to a world that it shows, by which it counts. Its history is what the log has of events
pub record IsLogged (script : Script) (calls : List PlanCall) (count number : ℕ) (v : ShardValue) (c : ShardCount) : Type 0 where
  pub log : List LogEntry
  pub start : World
  pub end : World
  pub opens : IsOpening script (opened_in count number 0 calls) start
  pub class : start.gateway.board.class ≡ is_of_class number count
  pub shown : IsWorldOf v end
  pub events : v.history ≡ events_logged log
  -- where it executed no more than a plan may, identifiers were left before each step
  pub runs : executes_in v.history ≤ most_executes → LogRuns script log start end
  pub epochs : epochs_logged log ≡ c.epoch
  pub restarts : all_restarts_logged log ≡ c.restarts
  pub ends : ends_logged 0 log ≡ c.ends.items
  pub counts : (first : ℕ) (k : CallCount) → slice_get c.counts.items first ≡ Some k → counted script first log none_counted ≡ counts_of script k
  -- each of its calls took the plan's steps
  pub steps : (first : ℕ) (call : PlanCall) → slice_get calls first ≡ Some call → first % count ≡ number
      → steps_logged first log ≡ steps_so_far c.epoch (place_of c first) call.epochs
  -- and each in the plan's epoch
  pub taken : (first : ℕ) (call : PlanCall) → slice_get calls first ≡ Some call → first % count ≡ number
      → (at : ℕ) → steps_taken first log at ≡ taken_so_far c.epoch (place_of c first) call.epochs at

-- each call of the plan is counted, and where each step of the shard went well there is a log
pub record IsCounted (script : Script) (calls : List PlanCall) (count number : ℕ) (v : ShardValue) (c : ShardCount) : Type 0 where
  pub all_counts : length c.counts.items ≡ length calls
  pub all_places : length c.places.items ≡ length calls
  pub logged : c.is_whole ≡ true → IsLogged script calls count number v c

-- of shards with numbers from this one on
abbrev pub AreCounted : Script → List PlanCall → (count number : ℕ) → List ShardValue → List ShardCount → Type 0
AreCounted script calls count number [] [] = Unit {0}
AreCounted script calls count number (v ∷ vs) (c ∷ cs) = IsCounted script calls count number v c × AreCounted script calls count (number + 1) vs cs
AreCounted script calls count number vs cs = ⊥

-- whatever run the shard is of, with these calls of a plan, it is counted still
abbrev pub StaysCounted : List PlanCall → ShardValue → ShardCount → ShardValue → ShardCount → Type 0
StaysCounted calls v c w d = (script : Script) (count number : ℕ) → IsOfRun script calls count number v → IsCounted script calls count number v c
    → IsOfRun script calls count number w × IsCounted script calls count number w d

-- ---- the end of an epoch

-- each call of the shard has taken all steps of this epoch
abbrev pub AreAtEnd : List PlanCall → (count number : ℕ) → ShardCount → Type 0
AreAtEnd calls count number c = (first : ℕ) → first % count ≡ number → step_at calls first c.epoch (place_of c first) ≡ None

-- some call of the shard has a step of this epoch left
abbrev pub HasStepsLeft : List PlanCall → (count number : ℕ) → ShardCount → Type 0
HasStepsLeft calls count number c =
    (first : ℕ) × ((first % count ≡ number) × ((step : PlanStep) × (step_at calls first c.epoch (place_of c first) ≡ Some step)))

-- ---- what is done with it

-- nothing is counted of any call
abbrev pub AreNoneCounted : List CallCount → Type 0
AreNoneCounted counts = All (λ (k : CallCount). (script : Script) → counts_of script k ≡ none_counted) counts

-- nothing is counted yet, of a shard in which nothing happened
abbrev pub IsNewCount : (calls : ℕ) → ShardValue → ShardCount → Type 0
IsNewCount size v c = (script : Script) (calls : List PlanCall) (count number : ℕ) → length calls ≡ size → IsOfRun script calls count number v
    → IsCounted script calls count number v c

-- a step of a call is counted, and the other calls stay
abbrev pub IsNextCount : PlanStep → TakenStep → (is_own : Bool) → CallCount → CallCount → Type 0
IsNextCount step told true j k = (script : Script) → counts_of script k ≡ count_step script step told.state told.event (counts_of script j)
IsNextCount step told false j k = k ≡ j

abbrev pub CountsOne : PlanStep → TakenStep → (first : ℕ) → List CallCount → List CallCount → Type 0
CountsOne step told first old new = (n : ℕ) (k : CallCount) → slice_get new n ≡ Some k
    → (j : CallCount) × ((slice_get old n ≡ Some j) × IsNextCount step told (first == n) j k)

-- one place is one further, and the others stay
pub record RaisesOne (first : ℕ) (old new : List ℕ) : Type 0 where
  pub raised : slice_index_or new first 0 ≡ slice_index_or old first 0 + 1
  pub others : (n : ℕ) → (n ≡ first → ⊥) → slice_index_or new n 0 ≡ slice_index_or old n 0

-- the plan's next step of a call was taken in the shard, and is counted
pub record TakesStep (calls : List PlanCall) (v : ShardValue) (c : ShardCount) (w : ShardValue) (d : ShardCount) : Type 0 where
  pub first : ℕ
  pub step : PlanStep
  pub told : TakenStep
  pub next : step_at calls first c.epoch (place_of c first) ≡ Some step
  pub left : IdentifiersAreLeft v
  pub taken : IsTaken v w first step told
  pub counts : CountsOne step told first c.counts.items d.counts.items
  pub places : RaisesOne first c.places.items d.places.items
  pub epoch : d.epoch ≡ c.epoch
  pub restarts : d.restarts ≡ c.restarts
  pub ends : d.ends.items ≡ c.ends.items

-- whatever run the shard is of, one of so many with this number, it is counted still
abbrev pub StaysCountedAs : List PlanCall → (count number : ℕ) → ShardValue → ShardCount → ShardValue → ShardCount → Type 0
StaysCountedAs calls count number v c w d = (script : Script) → IsOfRun script calls count number v → IsCounted script calls count number v c
    → IsOfRun script calls count number w × IsCounted script calls count number w d

-- ---- restarts

-- where the call is one of the shard, the restart is its next step, of which one more is taken
abbrev pub IsAskedOf : List PlanCall → (first : ℕ) → (is_own : Bool) → ShardCount → ShardCount → Type 0
IsAskedOf calls first true c d = (step_at calls first c.epoch (place_of c first) ≡ Some Restarts) × RaisesOne first c.places.items d.places.items
IsAskedOf calls first false c d = d.places.items ≡ c.places.items

pub record AsksForRestart (calls : List PlanCall) (first : ℕ) (is_own : Bool) (c d : ShardCount) : Type 0 where
  pub epoch : d.epoch ≡ c.epoch
  pub restarts : d.restarts ≡ c.restarts + 1
  pub ends : d.ends.items ≡ c.ends.items
  pub asked : IsAskedOf calls first is_own c d

-- the shard restarts, for a step of this call
pub record TakesRestart (calls : List PlanCall) (first : ℕ) (is_own : Bool) (v : ShardValue) (c : ShardCount) (w : ShardValue) (d : ShardCount) : Type 0 where
  pub asks : AsksForRestart calls first is_own c d
  pub left : IdentifiersAreLeft v
  pub happened : HasHappened v w Restart

-- whatever run the shard is of, where it is told right whether the call is one of it, it is counted still
abbrev pub StaysCountedBy : List PlanCall → (first : ℕ) → (is_own : Bool) → ShardValue → ShardCount → ShardValue → ShardCount → Type 0
StaysCountedBy calls first is_own v c w d =
    (count number : ℕ) → (is_own ≡ false → first % count ≡ number → ⊥) → StaysCountedAs calls count number v c w d

-- all calls of the shard have taken their steps of an epoch, it restarts, and the next epoch begins
pub record TakesEnd (calls : List PlanCall) (count number : ℕ) (v : ShardValue) (c : ShardCount) (w : ShardValue) (d : ShardCount) : Type 0 where
  pub ended : AreAtEnd calls count number c
  pub epoch : d.epoch ≡ c.epoch + 1
  pub restarts : d.restarts ≡ c.restarts
  pub ends : d.ends.items ≡ c.ends.items ++ c.restarts ∷ []
  pub places : (first : ℕ) → place_of d first ≡ 0
  pub left : IdentifiersAreLeft v
  pub happened : HasHappened v w Restart

-- What is told of a call of a plan is what its run has of it. A reader should check that each step of the plan is told once and in order, that the events that are
-- told are those of the run's history, with the restarts where it has them, and that those of each line and its idle steps are as many as the line
-- says. This profile's own.
use Rattle.std.specs.Prelude.{◌≡◌, ℕ, ◌+◌, ◌==◌, Bool, true, List, [], ◌∷◌, ◌++◌, length, slice_get, Some, if◌then◌else◌}
use Rattle.std.specs.List.{All, filter}
use Rattle.mg_model.specs.declared.events.Event.{Event}
use Rattle.mg_model.specs.declared.events.Event.TheVariants.{OfCall, Restart}
use Rattle.mg_model.specs.Plans as plans
use Rattle.mg_model.specs.Script.{Script}
use Rattle.run_account.specs.FinalState.{call_of}
use Rattle.run_account.specs.Runs.{OutcomeValue, is_within}
use Rattle.run_account.specs.Parts.{of_call}
use Rattle.run_account.specs.Line.{Line}
use Rattle.run_steps.specs.Telling.{IsGone, own_steps}
use Rattle.run_steps.specs.declared.call_steps.CallSteps.{CallSteps}
use Rattle.taken_steps.specs.declared.came.Came.{Came}
use Rattle.taken_steps.specs.declared.came.Came.TheVariants as came
use Rattle.run_steps.specs.declared.told_step.ToldStep.{ToldStep}

-- an event of the call of the plan with this number, or of one that began within it, or a restart
abbrev pub is_part_of : ℕ → Event → Bool
is_part_of number (OfCall call happens) = is_within number (OfCall call happens)
is_part_of number Restart = true

-- the events that are told of a call
abbrev pub event_told : ℕ → (call : ℕ) → Came → List Event
event_told number call (came.Happened event) = if call == number then event ∷ [] else []
event_told number call came = []

abbrev pub events_told : ℕ → List ToldStep → List Event
events_told number [] = []
events_told number (t ∷ more) = event_told number t.call.0 t.came ++ events_told number more

-- how many idle steps are told of a call
abbrev pub idle_told_in : ℕ → (call : ℕ) → Came → ℕ
idle_told_in number call (came.Idle why) = if call == number then 1 else 0
idle_told_in number call came = 0

abbrev pub idle_told : ℕ → List ToldStep → ℕ
idle_told number [] = 0
idle_told number (t ∷ more) = idle_told_in number t.call.0 t.came + idle_told number more

-- of a line the events of its call are told, so many, and as many idle steps
pub record IsLineTold (history : List Event) (told : List ToldStep) (l : Line) : Type 0 where
  pub transcript : events_told (call_of l) told ≡ of_call (call_of l) history
  pub events : length (events_told (call_of l) told) ≡ l.events
  pub idle : idle_told (call_of l) told ≡ l.idle

-- what is told of the call of a plan with this number, where its run came to this
pub record IsTold (script : Script) (plan : plans.Plan) (outcome : OutcomeValue) (number : ℕ) (call : plans.PlanCall) (t : CallSteps) : Type 0 where
  pub steps : own_steps t.steps.items ≡ plans.steps_in (plans.epochs_of plan.calls) call.epochs
  pub gone : IsGone script (plans.opened_as number call) t.steps.items (filter (is_part_of number) outcome.history)
  pub all_lines : t.lines.items ≡ filter (λ (l : Line). l.call == number) outcome.lines
  pub lines : All (IsLineTold outcome.history t.steps.items) t.lines.items

-- the plan has such a call
abbrev pub IsCallTold : Script → plans.Plan → OutcomeValue → (number : ℕ) → CallSteps → Type 0
IsCallTold script plan outcome number told =
    (call : plans.PlanCall) × (slice_get plan.calls number ≡ Some call) × IsTold script plan outcome number call told

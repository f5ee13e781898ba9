-- The statements of the laws of reports. Each is carried by an empty function of the same name.
use Rattle.std.specs.Prelude.{◌≡◌, ℕ, List, [], ◌∷◌, ◌↔◌}
use Rattle.mg_model.specs.declared.events.Event.{Event}
use Rattle.mg_model.specs.Agent.{Agent}
use Rattle.mg_model.specs.declared.plans.PlanStep.{PlanStep}
use Rattle.mg_model.specs.Reports.{Means, IsPlacing, Progress, start_as, StepsRun}
use Rattle.mg_model.specs.Script.{Script}
use Rattle.mg_model.specs.World.{World, Opened, IsOpening}

abbrev pub OnePlacingWithoutRestarts : Type 0
OnePlacingWithoutRestarts = (steps placed : List PlanStep) → IsPlacing steps 0 placed ↔ (placed ≡ steps)

abbrev pub StepsMeanOneEvent : Type 0
StepsMeanOneEvent =
    (w : World) (a : Agent) (next : ℕ) (step : PlanStep) (one other : Event) → Means w a next step one → Means w a next step other
    → one ≡ other

-- two runs of a call alone by the same steps, from one opening and with the same replies, end alike: all that a run leaves open is which
-- identifiers the gateway gives
abbrev pub RepliesDetermineRuns : Type 0
RepliesDetermineRuns =
    (script : Script) (one : Opened) (steps : List PlanStep) (start : World) (end other : Progress) → IsOpening script (one ∷ []) start
    → StepsRun script one.call steps (start_as one start) end → StepsRun script one.call steps (start_as one start) other
    → end.world.replies ≡ other.world.replies → end ≡ other

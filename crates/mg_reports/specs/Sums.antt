-- How the lines of a call count its steps. A reader should check that each step other than a restart is counted once, as an event or as idle, in the line of the
-- call that stood when it was taken. Each law is carried by an empty function of the same name.
use Rattle.std.specs.Prelude.{◌≡◌, ℕ, suc, ◌+◌, List, [], ◌∷◌}
use Rattle.mg_model.specs.declared.plans.PlanStep.{PlanStep}
use Rattle.mg_model.specs.declared.plans.PlanStep.TheVariants.{Restarts}
use Rattle.mg_model.specs.Plans.{Plan, PlanCall}
use Rattle.mg_model.specs.Reports.{IsReport, IsReported, ReportLine}
use Rattle.mg_model.specs.Script.{Script}
use Rattle.mg_model.specs.World.{Opened}

-- how many of these steps aren't restarts
abbrev pub steps_besides_restarts : List PlanStep → ℕ
steps_besides_restarts [] = 0
steps_besides_restarts (Restarts ∷ more) = steps_besides_restarts more
steps_besides_restarts (step ∷ more) = suc (steps_besides_restarts more)

-- how many steps of a call aren't
abbrev pub steps_of_call : (epochs : List (List PlanStep)) → ℕ
steps_of_call [] = 0
steps_of_call (steps ∷ more) = steps_besides_restarts steps + steps_of_call more

-- all events and idle steps of these lines
abbrev pub steps_told : List ReportLine → ℕ
steps_told [] = 0
steps_told (line ∷ more) = line.events + line.idle + steps_told more

-- the lines of each call tell of as many steps as it has
abbrev pub AddUp : List PlanCall → List (List ReportLine) → Type 0
AddUp [] [] = Unit {0}
AddUp (call ∷ more) (lines ∷ others) = (steps_told lines ≡ steps_of_call call.epochs) × AddUp more others
AddUp calls lines = ⊥

-- ---- the laws

abbrev pub LinesAddUp : Type 0
LinesAddUp =
    (script : Script) (one : Opened) (steps : List PlanStep) (others : ℕ) (lines : List ReportLine) → IsReported script one steps others lines
    → steps_told lines ≡ steps_besides_restarts steps

abbrev pub ReportsAddUp : Type 0
ReportsAddUp = (script : Script) (plan : Plan) (lines : List (List ReportLine)) → IsReport script plan lines → AddUp plan.calls lines

-- The statements of the laws. Each is carried by an empty function of the same name. A reader should check that nothing is asked of the gateways of the two
-- reports, which may give other identifiers.
use Rattle.std.specs.Prelude.{◌≡◌, List, Contains}
use Rattle.std.specs.List.{All}
use Rattle.mg_model.specs.declared.plans.PlanStep.{PlanStep}
use Rattle.mg_model.specs.declared.plans.PlanStep.TheVariants.{Restarts}
use Rattle.mg_model.specs.Accepted.{HasFewCommands, IsEntryOf, IsScript}
use Rattle.mg_model.specs.Entries.{Entry}
use Rattle.mg_model.specs.Obligations.{NoneBroken}
use Rattle.mg_model.specs.Plans.{Plan, PlanCall, restarts_of_others}
use Rattle.mg_model.specs.Reports.{IsReport, IsReported, ReportLine}
use Rattle.mg_model.specs.Script.{Script}
use Rattle.mg_model.specs.World.{Opened}

-- two reports of a call by the same steps, with no restart of another call among them, are one
abbrev pub OneReportAlone : Type 0
OneReportAlone =
    (script : Script) (entries : List Entry) → IsScript script → All (IsEntryOf script) entries → NoneBroken script entries → HasFewCommands script
    → (one : Opened) (steps : List PlanStep) (lines others : List ReportLine) → IsReported script one steps 0 lines → IsReported script one steps 0 others
    → others ≡ lines

-- no call of the plan has restarts of other calls
abbrev pub HaveNoRestartsOfOthers : Plan → Type 0
HaveNoRestartsOfOthers plan = (call : PlanCall) → Contains plan.calls call → restarts_of_others plan call ≡ 0

-- two reports of such a plan are one
abbrev pub OneReport : Type 0
OneReport =
    (script : Script) (entries : List Entry) → IsScript script → All (IsEntryOf script) entries → NoneBroken script entries → HasFewCommands script
    → (plan : Plan) → HaveNoRestartsOfOthers plan → (lines others : List (List ReportLine)) → IsReport script plan lines → IsReport script plan others
    → others ≡ lines

-- no step of a call is a `restart`, in no epoch
abbrev pub HaveNoRestartSteps : Plan → Type 0
HaveNoRestartSteps plan =
    (call : PlanCall) → Contains plan.calls call → (steps : List PlanStep) → Contains call.epochs steps → Contains steps Restarts → ⊥

-- a plan without such steps is one of those above
abbrev pub PlansWithoutRestartSteps : Type 0
PlansWithoutRestartSteps = (plan : Plan) → HaveNoRestartSteps plan → HaveNoRestartsOfOthers plan

-- A call with two reports: under a script that is accepted, the same steps of a call lead to these lines and to other ones, since it is left open which
-- identifiers its gateway gives. So the law that a plan has one report can't do without its premise that no obligation is broken. A reader should check that
-- script, call and steps are the same in both reports, that no restart of another call stands among the steps, and that the script has what the law asks of
-- it besides.
use Rattle.std.specs.Prelude.{◌≡◌, ◌≤◌, List, length}
use Rattle.std.specs.List.{All}
use Rattle.mg_model.specs.declared.plans.PlanStep.{PlanStep}
use Rattle.mg_model.specs.Accepted.{IsScript}
use Rattle.mg_model.specs.Reports.{IsReported, ReportLine}
use Rattle.mg_model.specs.Script.{Script, State}
use Rattle.mg_model.specs.World.{Opened}

pub record ReportsCanDiffer (script : Script) : Type 0 where
  pub one : Opened
  pub steps : List PlanStep
  pub lines : List ReportLine
  pub others : List ReportLine
  pub accepted : IsScript script
  -- as the law asks it
  pub few_commands : All (λ (state : State). length state.commands ≤ 16) script.states
  pub reported : IsReported script one steps 0 lines
  pub also_reported : IsReported script one steps 0 others
  pub differ : lines ≡ others → ⊥

-- That the lines of a run are the only ones that its plan can have. A reader should check that the other lines may be of any run of the calls, in any number of
-- shards, whatever identifiers the gateways give. This profile's own.
use Rattle.std.specs.Prelude.{◌≡◌, ℕ, List, map}
use Rattle.mg_model.specs.Plans.{Plan}
use Rattle.mg_model.specs.Reports.{ReportLine}
use Rattle.mg_model.specs.Script.{Script}
use Rattle.mg_reports.specs.OneReport.{HaveNoRestartsOfOthers}
use Rattle.run_account.specs.ReportLines.{IsReportOf, line_of, number_of}
use Rattle.run_account.specs.Line.{Line}

-- all that is written of a line
abbrev pub told_of : Script → Line → (ℕ × ℕ) × ReportLine
told_of script l = (number_of l, line_of script l)

-- where no call of the plan has restarts of other calls, each report of its calls tells the same
abbrev pub IsOnlyReport : Script → Plan → List Line → Type 0
IsOnlyReport script plan lines =
    HaveNoRestartsOfOthers plan → (other : Plan) → other.calls ≡ plan.calls → (others : List Line) → IsReportOf script other others
    → map (told_of script) others ≡ map (told_of script) lines

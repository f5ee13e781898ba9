-- The law.
use Rattle.mg_reports.proofs.Runs.{one_alone}
use Rattle.mg_reports.proofs.one_report.one_report_alone.Goals as goal

pub returns : goal.returns
returns c = one_alone

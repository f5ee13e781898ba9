-- The law.
use Rattle.mg_reports.proofs.Plans.{one_report}
use Rattle.mg_reports.proofs.one_report.one_report.Goals as goal

pub returns : goal.returns
returns c = one_report

-- The law.
use Rattle.mg_reports.proofs.Among.Reported.{reports_among}
use Rattle.mg_reports.proofs.one_report.reports_among_others.Goals as goal

pub returns : goal.returns
returns c = reports_among

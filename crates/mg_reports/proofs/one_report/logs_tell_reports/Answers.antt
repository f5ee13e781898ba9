-- The law.
use Rattle.mg_reports.proofs.Logs.Told.{logs_tell}
use Rattle.mg_reports.proofs.one_report.logs_tell_reports.Goals as goal

pub returns : goal.returns
returns c = logs_tell

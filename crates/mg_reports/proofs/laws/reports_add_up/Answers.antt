-- The law.
use Rattle.mg_reports.proofs.AddedUp.{reports_add}
use Rattle.mg_reports.proofs.laws.reports_add_up.Goals as goal

pub returns : goal.returns
returns c = reports_add

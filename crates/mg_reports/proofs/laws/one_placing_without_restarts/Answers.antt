-- The law.
use Rattle.mg_reports.proofs.Placings.{one_placing}
use Rattle.mg_reports.proofs.laws.one_placing_without_restarts.Goals as goal

pub returns : goal.returns
returns c = one_placing

-- The law.
use Rattle.mg_reports.proofs.SameReports.{determined}
use Rattle.mg_reports.proofs.laws.replies_determine_runs.Goals as goal

pub returns : goal.returns
returns c = determined

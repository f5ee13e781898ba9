-- The law.
use Rattle.mg_reports.proofs.Placings.{one_event}
use Rattle.mg_reports.proofs.laws.steps_mean_one_event.Goals as goal

pub returns : goal.returns
returns c = one_event

-- The law.
use Rattle.mg_reports.proofs.Plans.{none_of_others}
use Rattle.mg_reports.proofs.one_report.plans_without_restart_steps.Goals as goal

pub returns : goal.returns
returns c = none_of_others

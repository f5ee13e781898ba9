-- The lines of the outcome are a report of the plan, so they are the only one.
use Rattle.runner.proofs.OnlyReport.{only_report}
use Rattle.runner.proofs.plan_run.run.Goals as goal

pub returns-in-Ok-clause-report : goal.returns-in-Ok-clause-report
returns-in-Ok-clause-report g c =
    let checked = c.args.checked.now in
    only_report c.one_report.ensures checked.table checked.entries checked.points c.is_checked.ensures c.args.plan.now c.in-Ok.outcome.lines c.in-Ok.ensures.report

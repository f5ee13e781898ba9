-- The report of the run, or why it has none.
use Rattle.std.proofs.Common.{refl}
use Rattle.check_lines.specs.Output.{report}
use Rattle.check_lines.specs.Replies.{line_of}
use Rattle.run_reports.specs.RunAnswers.{call_lines}
use Rattle.run_reports.proofs.RunLemmas.{run_refused}
use Rattle.run_reports.proofs.SameReports.{same_lines}
use Rattle.run_facts.specs.Saying.{AnswersSteps}
use Rattle.run_facts.proofs.RunSaying.{told_line, told_output}
use Rattle.run_facts.proofs.told_run.steps_told.Goals as goal

pub returns-in-Ok : goal.returns-in-Ok
returns-in-Ok g c =
    let table = c.args.checked.now.table in
    let plan = c.args.plan.now in
    let outcome = c.in-Ok.outcome in
    told_output (AnswersSteps table plan) c.args.asked.0 (report (call_lines table outcome.lines))
    (λ text reads. record {
      steps = plan;
      reads = reads;
      outcome = outcome;
      runs = c.in-Ok.ensures.run;
      calls_are = refl;
      only = λ none other same others also. same_lines table outcome.lines others (c.in-Ok.ensures.report none other same others also);
    })
    c.run_well_told.result c.run_well_told.ensures

pub returns-in-Err : goal.returns-in-Err
returns-in-Err g c =
    told_line (AnswersSteps c.args.checked.now.table c.args.plan.now) c.args.asked.0 (line_of c.run_reply.result)
    (λ text reads. run_refused c.args.checked.now.table 1 text c.args.plan.now c.in-Err.fault _ reads c.in-Err.ensures.run c.run_reply.ensures) c.unread.result
    c.unread.ensures

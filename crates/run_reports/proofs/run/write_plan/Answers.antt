-- The report, or why there is none.
use Rattle.std.proofs.Common.{◌≡◌, ◌∙◌, Ok, Err, sym, ap₂, subst, inr}
use Rattle.mg_model.specs.Script.{Script}
use Rattle.runner.specs.Runs.{HasRun}
use Rattle.plans.specs.Reading.{ReadsPlan}
use Rattle.typed_values.specs.Unread.{OrNoMemory}
use Rattle.check_lines.specs.Output.{report}
use Rattle.check_lines.specs.Replies.{line_of}
use Rattle.run_reports.specs.RunAnswers.{AnswersPlan, call_lines}
use Rattle.run_reports.proofs.RunLemmas.{plan_refused, run_refused}
use Rattle.run_reports.proofs.SameReports.{same_lines}
use Rattle.check_lines.proofs.Told.{serves}
use Rattle.run_reports.proofs.run.write_plan.Goals as goal

pub returns-in-Err-clause-output : goal.returns-in-Err-clause-output
returns-in-Err-clause-output g c =
    let contents = g.W.Sink.contents in
    let table = c.args.checked.now.table in
    serves (AnswersPlan table c.args.workers c.args.plan.now) (line_of c.plan_reply.result) (contents c.args.sink.now) (contents c.write_reply.new.sink) c.write_reply.result
    (plan_refused table c.args.workers c.args.plan.now c.in-Err.unread _
    (subst (λ (script : Script). OrNoMemory (ReadsPlan script c.args.plan.now) (Err c.in-Err.unread)) c.script.ensures.table c.in-Err.ensures.reads) c.plan_reply.ensures)
    c.write_reply.ensures.line

pub returns-in-Ok-run-clause-output : goal.returns-in-Ok-run-clause-output
returns-in-Ok-run-clause-output g c =
    let contents = g.W.Sink.contents in
    let table = c.args.checked.now.table in
    let lines_are : call_lines c.script-in-Ok-run.result.now c.lines.result.now ≡ call_lines table c.in-Ok-run.outcome.lines =
    ap₂ call_lines c.script-in-Ok-run.ensures.table c.lines.ensures in (
      report (call_lines c.script-in-Ok-run.result.now c.lines.result.now),
      inr (record {
        steps = c.in-Ok.steps;
        reads = subst (λ (script : Script). ReadsPlan script c.args.plan.now (Ok c.in-Ok.steps)) c.script.ensures.table c.in-Ok.ensures.reads;
        outcome = c.in-Ok-run.outcome;
        runs = subst (λ n. HasRun table c.in-Ok.steps n (Ok c.in-Ok-run.outcome)) c.from.ensures c.in-Ok-run.ensures.run;
        calls_are = lines_are;
        only = λ none other same others also.
            same_lines table c.in-Ok-run.outcome.lines others (c.in-Ok-run.ensures.report none other same others also) ∙ sym lines_are;
      }),
      c.write_report.ensures.output,
    )

pub returns-clause-output : goal.returns-clause-output
returns-clause-output g c =
    let contents = g.W.Sink.contents in
    let table = c.args.checked.now.table in
    serves (AnswersPlan table c.args.workers c.args.plan.now) (line_of c.run_reply.result) (contents c.args.sink.now) (contents c.write_reply-in-Err-run.new.sink)
    c.write_reply-in-Err-run.result
    (run_refused table c.args.workers c.args.plan.now c.in-Ok.steps c.in-Err-run.fault _
    (subst (λ (script : Script). ReadsPlan script c.args.plan.now (Ok c.in-Ok.steps)) c.script.ensures.table c.in-Ok.ensures.reads)
    (subst (λ n. HasRun table c.in-Ok.steps n (Err c.in-Err-run.fault)) c.from.ensures c.in-Err-run.ensures.run) c.run_reply.ensures)
    c.write_reply-in-Err-run.ensures.line

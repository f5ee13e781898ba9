-- What is said of a plan that is read, or why it isn't.
use Rattle.std.proofs.Common.{Ok, Err, subst}
use Rattle.mg_model.specs.Script.{Script}
use Rattle.plans.specs.Reading.{ReadsPlan}
use Rattle.typed_values.specs.Unread.{OrNoMemory}
use Rattle.check_lines.specs.Replies.{line_of}
use Rattle.run_reports.specs.RunAnswers.{AnswersPlan}
use Rattle.run_reports.proofs.RunLemmas.{plan_refused}
use Rattle.run_facts.proofs.RunSaying.{told_line, told_plan}
use Rattle.run_facts.proofs.told_run.plan_told.Goals as goal

pub returns-in-Ok : goal.returns-in-Ok
returns-in-Ok g c =
    told_plan c.args.checked.now.table c.in-Ok.steps c.args.plan.now c.args.asked.0
    (subst (λ (script : Script). ReadsPlan script c.args.plan.now (Ok c.in-Ok.steps)) c.script.ensures.table c.in-Ok.ensures.reads) c.steps_told.result
    c.steps_told.ensures

pub returns-in-Err : goal.returns-in-Err
returns-in-Err g c =
    let table = c.args.checked.now.table in
    told_line (AnswersPlan table 1 c.args.plan.now) c.args.asked.0 (line_of c.plan_reply.result)
    (plan_refused table 1 c.args.plan.now c.in-Err.why _
    (subst (λ (script : Script). OrNoMemory (ReadsPlan script c.args.plan.now) (Err c.in-Err.why)) c.script.ensures.table c.in-Err.ensures.reads)
    c.plan_reply.ensures)
    c.unread.result c.unread.ensures

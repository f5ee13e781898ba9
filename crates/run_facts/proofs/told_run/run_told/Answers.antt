-- What is said of the plan where the script is checked, and else what is said of its check.
use Rattle.std.proofs.Common.{Ok, subst}
use Rattle.std.specs.Prelude.{IfOk}
use Rattle.composition.specs.Verdict.{CheckedScript, RefutedScript}
use Rattle.composition.specs.Verdicts.{IsVerdict}
use Rattle.check_lines.specs.Replies.{answer_line}
use Rattle.check_lines.specs.VerdictLines.{NamesFault}
use Rattle.run_reports.specs.RunAnswers.{AnswersRun}
use Rattle.run_reports.proofs.RunLemmas.{no_told}
use Rattle.run_facts.specs.Saying.{IsPlanTold}
use Rattle.run_facts.proofs.RunSaying.{told_line, told_unread, told_yes}
use Rattle.run_facts.proofs.told_run.run_told.Goals as goal

pub returns-in-Ok-Yes : goal.returns-in-Ok-Yes
returns-in-Ok-Yes g c =
    let script = c.args.sections.0.now in
    let certificate = c.args.sections.1.now in
    let plan = c.args.sections.2.now in
    told_yes script certificate plan c.in-Ok-Yes.checked c.args.asked.0
    (subst (λ verdict. IsVerdict script certificate (Ok verdict)) c.in-Ok-Yes.field-0-is c.in-Ok-Yes.ensures.verdict) c.plan_told.result
    (subst (λ (checked : CheckedScript). IfOk c.plan_told.result (IsPlanTold checked.table plan c.args.asked.0)) c.in-Ok-Yes.checked-is c.plan_told.ensures)

pub returns-in-Ok-No : goal.returns-in-Ok-No
returns-in-Ok-No g c =
    let script = c.args.sections.0.now in
    let certificate = c.args.sections.1.now in
    let plan = c.args.sections.2.now in
    let is = subst (λ verdict. IsVerdict script certificate (Ok verdict)) c.in-Ok-No.field-0-is c.in-Ok-No.ensures.verdict in
    let names = subst (λ (refuted : RefutedScript). NamesFault refuted.table refuted.fault (answer_line c.broken.result)) c.in-Ok-No.refuted-is c.broken.ensures in
    told_line (AnswersRun 1 script certificate plan) c.args.asked.0 (answer_line c.broken.result)
    (no_told 1 script certificate plan c.in-Ok-No.refuted (answer_line c.broken.result) is names) c.no_told.result c.no_told.ensures

pub returns-in-Err : goal.returns-in-Err
returns-in-Err g c =
    told_unread c.args.sections.0.now c.args.sections.1.now c.args.sections.2.now c.in-Err.fault c.args.asked.0 c.in-Err.ensures.verdict c.fault_told.result
    c.fault_told.ensures

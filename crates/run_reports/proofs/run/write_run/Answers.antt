-- What `check` says of a script that is refused.
use Rattle.std.proofs.Common.{Ok, subst}
use Rattle.composition.specs.Verdicts.{IsVerdict}
use Rattle.check_lines.specs.Replies.{answer_line}
use Rattle.run_reports.specs.RunAnswers.{AnswersRun}
use Rattle.run_reports.proofs.RunLemmas.{no_told, unread_told}
use Rattle.check_lines.proofs.Told.{serves}
use Rattle.run_reports.proofs.run.write_run.Goals as goal

pub returns-in-Ok-No-clause-output : goal.returns-in-Ok-No-clause-output
returns-in-Ok-No-clause-output g c =
    let contents = g.W.Sink.contents in
    let script = c.args.sections.0.now in
    let certificate = c.args.sections.1.now in
    let plan = c.args.sections.2.now in
    let is = subst (λ verdict. IsVerdict script certificate (Ok verdict)) c.in-Ok-No.field-0-is c.in-Ok-No.ensures.verdict in
    serves (AnswersRun c.args.workers script certificate plan) (answer_line c.broken.result) (contents c.args.sink.now) (contents c.write_reply.new.sink) c.write_reply.result
    (no_told c.args.workers script certificate plan c.in-Ok-No.refuted (answer_line c.broken.result) is c.broken.ensures)
    c.write_reply.ensures.line

pub returns-in-Err-clause-output : goal.returns-in-Err-clause-output
returns-in-Err-clause-output g c =
    let contents = g.W.Sink.contents in
    let script = c.args.sections.0.now in
    let certificate = c.args.sections.1.now in
    let plan = c.args.sections.2.now in
    serves (AnswersRun c.args.workers script certificate plan) (answer_line c.refused.result) (contents c.args.sink.now) (contents c.write_reply-in-Err.new.sink) c.write_reply-in-Err.result
    (unread_told c.args.workers script certificate plan c.in-Err.fault (answer_line c.refused.result) c.in-Err.ensures.verdict c.refused.ensures)
    c.write_reply-in-Err.ensures.line

-- The fault that the checker found is the one that is told, and a yes is told of what was read.
use Rattle.std.proofs.Common.{subst, Ok, Some}
use Rattle.composition.specs.Verdicts.{IsVerdict}
use Rattle.check_lines.proofs.VerdictLines.{told}
use Rattle.check_lines.specs.Replies.{answer_line}
use Rattle.check_facts.proofs.Saying.{names_no_yes, read_of, told_under, told_yes, yes_of}
use Rattle.check_facts.proofs.told.documents_told.Goals as goal

pub returns-in-Ok-No : goal.returns-in-Ok-No
returns-in-Ok-No c =
    let is = subst (λ verdict. IsVerdict c.args.script.now c.args.certificate.now (Ok verdict)) c.in-Ok-No.field-0-is c.in-Ok-No.ensures.verdict in
    let line = answer_line c.broken.result in
    let judged = told c.args.script.now c.args.certificate.now c.in-Ok-No.refuted line is c.broken.ensures in
    let other = names_no_yes c.in-Ok-No.refuted.table c.in-Ok-No.refuted.fault line c.broken.ensures in
    told_under c.args.is_strict (Some (c.args.script.now, c.args.certificate.now)) c.args.form line judged other c.no_told.result c.no_told.ensures

pub returns-in-Ok-Yes : goal.returns-in-Ok-Yes
returns-in-Ok-Yes c =
    let script = c.args.script.now in
    let certificate = c.args.certificate.now in
    let checked = c.in-Ok-Yes.checked in
    let is = subst (λ verdict. IsVerdict script certificate (Ok verdict)) c.in-Ok-Yes.field-0-is c.in-Ok-Yes.ensures.verdict in
    let line = yes_of script certificate checked c.states.result c.entries.result c.points.result is c.states.ensures c.entries.ensures c.points.ensures in
    told_yes c.args.is_strict script certificate c.args.form c.states.result c.entries.result c.points.result checked.table checked.entries line
    (read_of script certificate checked is) c.yes_told.result c.yes_told.ensures.begins c.yes_told.ensures.status

-- The fault that the checker found is the one that is told.
use Rattle.std.proofs.Common.{subst, Ok}
use Rattle.check_lines.specs.Replies.{answer_line}
use Rattle.composition.specs.Verdicts.{IsVerdict}
use Rattle.check_lines.proofs.VerdictLines.{told}
use Rattle.check_lines.proofs.check.answer.Goals as goal

pub returns-in-Ok-No : goal.returns-in-Ok-No
returns-in-Ok-No g c =
    told c.args.script.now c.args.certificate.now c.in-Ok-No.refuted (answer_line c.broken.result)
    (subst (λ verdict. IsVerdict c.args.script.now c.args.certificate.now (Ok verdict)) c.in-Ok-No.field-0-is c.in-Ok-No.ensures) c.broken.ensures

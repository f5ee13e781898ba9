-- A certificate has one first fault.
use Rattle.std.proofs.Common.{Some, subst}
use Rattle.closure.specs.Answer.{IsFinding}
use Rattle.closure.proofs.OneFinding.{one_answer}
use Rattle.parcheck.proofs.first_fault.first_fault_par.Goals as goal

pub returns-in-Broken-clause-same : goal.returns-in-Broken-clause-same
returns-in-Broken-clause-same g c other is =
    let script = c.args.script.now in
    let entries = c.args.cert.now in
    one_answer script entries (Some c.in-Broken.fault) other
    (subst (IsFinding script entries) c.in-Broken.is c.in_ok-check_par.ensures.finding) is

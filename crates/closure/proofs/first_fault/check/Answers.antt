-- What is found of the opening and the restart, and then of the run of all entries, is the finding.
use Rattle.std.proofs.Common.{List}
use Rattle.mg_model.specs.Entries.{Entry}
use Rattle.closure.proofs.RunLemmas.{run_answer}
use Rattle.closure.proofs.first_fault.check.Goals as goal

pub returns : goal.returns
returns c =
    let script = c.args.script.now in
    let entries : List Entry = c.args.cert.now in
    run_answer script entries c.check_run.result c.in_default.ensures.0 c.in_default.ensures.1 (rw c.entries.ensures at c.check_run.ensures)

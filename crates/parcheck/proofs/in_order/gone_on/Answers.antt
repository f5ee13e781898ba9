-- A run that is broken stays so whatever comes after it; else what comes after it is joined to it.
use Rattle.std.proofs.Common.{sym, subst}
use Rattle.closure.specs.Runs.{IsOfRun}
use Rattle.parcheck.proofs.PieceLemmas.{first_broken}
use Rattle.parcheck.proofs.in_order.gone_on.Goals as goal

pub returns-in-Broken : goal.returns-in-Broken
returns-in-Broken c first from rise small found =
    let script = c.args.script.now in
    let entries = c.args.cert.now in
    let last = c.args.last in
    let broken = subst (IsOfRun script entries first c.args.reached) c.in-Broken.is found in
    subst (IsOfRun script entries first last) (sym c.in-Broken.is)
    (first_broken script entries first c.args.reached last rise c.in-Broken.field-0 broken)

pub returns-in-Kept : goal.returns-in-Kept
returns-in-Kept c first from rise small found =
    c.joined.ensures c.args.script.now c.args.cert.now first c.args.reached c.args.last from rise small found c.check_run-more.ensures

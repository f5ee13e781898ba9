use Rattle.std.proofs.Common.{rules}
use Rattle.requests.proofs.RunLemmas.{runs_on, runs_to_failure, runs_out}
use Rattle.requests.proofs.progress.Progress.run.Goals as goal

pub returns-in-Some : goal.returns-in-Some
returns-in-Some c =
    let failed = rw c.in-Some.is at c.in_ok-code.ensures in
    c.loop-place.invariant _ _ (runs_to_failure _ _ _ _ c.loop-place.place c.args.commands.now c.index-commands-place.result c.in-Some.code c.loop-place-test.true (search rules) failed.0 failed.1)

pub loop-place-preserved : goal.loop-place-preserved
loop-place-preserved c = λ end failure more.
    let executed = rw c.in_default.is at c.in_ok-code.ensures in
    c.loop-place.invariant end failure (runs_on _ _ _ _ c.loop-place.place c.args.commands.now c.index-commands-place.result end failure c.loop-place-test.true (search rules) executed more)

pub returns : goal.returns
returns c = c.loop-place.invariant _ _ (runs_out _ _ _ c.loop-place.place c.args.commands.now c.loop-place-test.false)

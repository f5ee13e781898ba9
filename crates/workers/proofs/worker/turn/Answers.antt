-- One step more was begun, and counted.
use Rattle.std.proofs.Common.{arith}
use Rattle.workers.proofs.worker.turn.Goals as goal

pub loop-preserved : goal.loop-preserved
loop-preserved g c = λ bound.
    let was = c.loop.invariant bound in
    let next = c.take-after.ensures (omega (arith, was, bound, c.loop-test.true)) in
    omega (arith, was, next)

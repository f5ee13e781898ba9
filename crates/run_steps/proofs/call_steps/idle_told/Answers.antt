-- One step more.
use Rattle.std.proofs.Common.{arith}
use Rattle.run_steps.proofs.ToldLists.{idle_next}
use Rattle.run_steps.proofs.call_steps.idle_told.Goals as goal

pub loop-step-preserved : goal.loop-step-preserved
loop-step-preserved c =
    let next = idle_next c.args.number.0 c.args.steps.now c.loop-step.step-index c.step-item.result c.loop-step-test.true c.step-item.is in record {
      counted = omega (arith, next, c.saturating_add-idle.ensures, c.idle_in.ensures.counted, c.idle_in.ensures.few, c.loop-step.invariant.counted, c.loop-step.invariant.few);
      few = omega (arith, c.saturating_add-idle.ensures, c.idle_in.ensures.few, c.loop-step.invariant.few);
    }

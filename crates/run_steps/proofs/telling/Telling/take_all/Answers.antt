-- One step more, up to the last.
use Rattle.std.proofs.Common.{take}
use Rattle.run_steps.proofs.ManySteps.{tells_as, tells_next, up_to_end}
use Rattle.run_steps.proofs.telling.Telling.take_all.Goals as goal

pub loop-step-preserved : goal.loop-step-preserved
loop-step-preserved c =
    tells_next c.args.steps.now c.loop-step.step-index c.step-item.result c.args.self c.loop-step.telling c.in_ok-telling.telling c.loop-step-test.true
    c.step-item.is c.loop-step.invariant c.in_ok-telling.ensures

pub returns : goal.returns
returns c =
    tells_as (take c.loop-step.step-index c.args.steps.now) c.args.steps.now c.args.self c.loop-step.telling
    (up_to_end c.args.steps.now c.loop-step.step-index c.loop-step-test.false) c.loop-step.invariant

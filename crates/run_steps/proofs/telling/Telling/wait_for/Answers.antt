-- A restart of another call is no step of this one.
use Rattle.std.proofs.Common.{[]}
use Rattle.run_steps.proofs.GoneSteps.{tells_both}
use Rattle.run_steps.proofs.telling.Telling.wait_for.Goals as goal

pub loop-preserved : goal.loop-preserved
loop-preserved c = tells_both [] [] c.args.self c.loop.telling c.in_ok-telling.telling c.loop.invariant c.in_ok-telling.ensures

-- The restart is told behind what was told before.
use Rattle.mg_model.specs.declared.plans.PlanStep.TheVariants.{Restarts}
use Rattle.run_steps.specs.declared.telling.Telling.{Telling}
use Rattle.run_steps.proofs.GoneSteps.{tells_last}
use Rattle.run_steps.proofs.Restarting.{restarted}
use Rattle.run_steps.proofs.telling.Telling.restart.Goals as goal
use Rattle.std.proofs.Common.{refl}

pub returns : goal.returns
returns c =
    let was = c.args.self in
    let taken : Telling = record was { shard = c.restart.new.self } in
    tells_last was taken c.tell.new.self Restarts c.args.came c.position_of-before.result refl
    (restarted was.shard c.restart.new.self was.next was.number.0 c.args.came c.requires c.in_ok-restart.ensures.0) c.position_of-before.ensures c.in_ok-tell.ensures

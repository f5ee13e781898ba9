-- The step is told behind what was told before.
use Rattle.std.proofs.Common.{List, refl, subst}
use Rattle.mg_model.specs.declared.plans.PlanStep.{PlanStep}
use Rattle.run_steps.specs.Telling.{TellsOn}
use Rattle.run_steps.specs.declared.telling.Telling.{Telling}
use Rattle.run_steps.proofs.GoneSteps.{tells_last}
use Rattle.run_steps.proofs.Restarting.{own_alone}
use Rattle.run_steps.proofs.telling.Telling.step.Goals as goal

pub returns : goal.returns
returns c =
    let was = c.args.self in
    let step = c.args.step.now in
    let next = c.in_ok-next.field-0 in
    let taken : Telling = record { shard = c.take.new.shard; next = next.next; number = next.number; scene = was.scene; steps = was.steps } in
    subst (λ (own : List PlanStep). TellsOn own was c.tell.new.self)
    (own_alone was.shard c.take.new.shard was.next next.next was.number.0 next.number.0 step next.came c.requires c.in_ok-next.ensures)
    (tells_last was taken c.tell.new.self step next.came c.position_of-before.result refl c.in_ok-next.ensures c.position_of-before.ensures c.in_ok-tell.ensures)

-- One step more.
use Rattle.std.proofs.Common.{List, ◌∙◌, ◌++◌, sym, ap}
use Rattle.mg_model.specs.declared.events.Event.{Event}
use Rattle.run_steps.specs.CallsTold.{event_told}
use Rattle.run_steps.proofs.ToldLists.{events_next}
use Rattle.run_steps.proofs.call_steps.events_told.Goals as goal

pub loop-step-preserved : goal.loop-step-preserved
loop-step-preserved c =
    let t = c.step-item.result in
    c.in_ok-push_event.ensures
    ∙ ap (λ (events : List Event). events ++ event_told c.args.number.0 t.call.0 t.came) c.loop-step.invariant
    ∙ sym (events_next c.args.number.0 c.args.steps.now c.loop-step.step-index t c.loop-step-test.true c.step-item.is)

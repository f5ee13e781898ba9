-- Its steps were told from its opening on, and its gateway ends with what the run's history has of it.
use Rattle.std.proofs.Common.{◌∙◌, List, sym, ap}
use Rattle.std.specs.List.{filter}
use Rattle.mg_model.specs.Plans as plans
use Rattle.mg_model.specs.declared.events.Event.{Event}
use Rattle.run_steps.specs.CallsTold.{is_part_of}
use Rattle.run_steps.proofs.GoneSteps.{gone}
use Rattle.run_steps.proofs.SameTranscripts.{same_events}
use Rattle.run_steps.proofs.call_steps.gone.Goals as goal

pub returns-clause-gone : goal.returns-clause-gone
returns-clause-gone c =
    gone c.args.ran.now.checked.now.table (plans.opened_as c.args.number c.args.call.now)
    (plans.steps_in c.epochs_of.result c.epochs.result.now)
    c.in_ok-telling.telling c.in_ok-telling-2.telling c.in_ok-telling-3.telling
    (filter (is_part_of c.args.number) c.args.ran.now.outcome.now.history) c.in_ok-telling.ensures c.in_ok-telling-2.ensures c.in_ok-telling-3.ensures
    (sym c.history-2.ensures
    ∙ same_events c.history-2.result.now c.as_slice-2.result.now (sym c.if-ne.false ∙ c.ne.ensures)
    ∙ c.as_slice-2.ensures.value
    ∙ c.in_ok-part.ensures
    ∙ ap (λ (history : List Event). filter (is_part_of c.args.number) history) c.history.ensures)

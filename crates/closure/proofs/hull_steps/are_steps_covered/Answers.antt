-- The steps are those of the link.
use Rattle.std.proofs.Common.{◌∙◌, ℕ, map, sym, ap, subst}
use Rattle.mg_model.specs.Request.{Names, built}
use Rattle.mg_model.specs.Steps.{bound_names}
use Rattle.mg_model.specs.Tables.{state_of}
use Rattle.configuration.specs.Config.{configuration_of}
use Rattle.closure.specs.Surviving.{AreSurviving}
use Rattle.closure.proofs.HullSteps.{answered_steps_covered, failed_steps_covered, rest_steps_covered, sent_steps_covered}
use Rattle.closure.proofs.hull_steps.are_steps_covered.Goals as goal

pub returns-in-Sent : goal.returns-in-Sent
returns-in-Sent c holds =
    sent_steps_covered c.args.script.now c.args.cert.now (map configuration_of c.args.hull.now) (configuration_of c.args.one.now) c.requires
    (sym c.link.ensures ∙ c.in-Sent.is) c.new-request.result
    (c.new-request.ensures.value ∙ ap (λ (names : Names). built names (state_of c.args.script.now c.state.result).commands) c.bound_in.ensures
    ∙ ap (λ (state : ℕ). built (bound_names (configuration_of c.args.one.now)) (state_of c.args.script.now state).commands) c.state.ensures)
    c.surviving_contexts-surviving.result
    (subst (λ (state : ℕ). AreSurviving (map configuration_of c.args.hull.now) (state_of c.args.script.now state).commands c.surviving_contexts-surviving.result)
    c.state-in-Sent.ensures c.surviving_contexts-surviving.ensures) (c.is_request_covered.ensures holds)

pub returns-in-Answered : goal.returns-in-Answered
returns-in-Answered c holds =
    answered_steps_covered c.args.script.now c.args.cert.now (map configuration_of c.args.hull.now) (configuration_of c.args.one.now) c.requires
    (sym c.link.ensures ∙ c.in-Answered.is) (c.is_reply_covered.ensures holds)

pub returns-in-Failed : goal.returns-in-Failed
returns-in-Failed c holds =
    failed_steps_covered c.args.script.now c.args.cert.now (map configuration_of c.args.hull.now) (configuration_of c.args.one.now) c.requires
    (sym c.link.ensures ∙ c.in-Failed.is) c.fault_of-target.result
    (c.fault_of-target.ensures ∙ ap (λ (state : ℕ). (state_of c.args.script.now state).fault) c.state-in-Failed.ensures) (c.is_entered.ensures holds)

pub returns-in-Resting : goal.returns-in-Resting
returns-in-Resting c holds =
    rest_steps_covered c.args.script.now c.args.cert.now (map configuration_of c.args.hull.now) (configuration_of c.args.one.now) c.requires
    (sym c.link.ensures ∙ c.in-Resting.is) (c.is_rest_covered.ensures holds)

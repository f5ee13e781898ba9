-- The call rests, or enters a state.
use Rattle.std.proofs.Common.{◌∙◌, ℕ, map, sym, ap}
use Rattle.mg_model.specs.Tables.{state_of}
use Rattle.configuration.specs.Config.{configuration_of}
use Rattle.closure.proofs.HullSteps.{reply_enters, reply_rests}
use Rattle.closure.proofs.hull_steps.is_reply_covered.Goals as goal

pub returns-in-None : goal.returns-in-None
returns-in-None c holds =
    reply_rests c.args.script.now c.args.cert.now (map configuration_of c.args.hull.now) (configuration_of c.args.one.now) c.requires
    (sym c.in-None.is ∙ c.ok_of.ensures ∙ ap (λ (state : ℕ). (state_of c.args.script.now state).ok) c.state.ensures) (c.is_linked.ensures holds)

pub returns-in-Some : goal.returns-in-Some
returns-in-Some c holds =
    reply_enters c.args.script.now c.args.cert.now (map configuration_of c.args.hull.now) (configuration_of c.args.one.now) c.requires c.in-Some.state
    (sym c.in-Some.is ∙ c.ok_of.ensures ∙ ap (λ (state : ℕ). (state_of c.args.script.now state).ok) c.state.ensures) (c.is_entered.ensures holds)

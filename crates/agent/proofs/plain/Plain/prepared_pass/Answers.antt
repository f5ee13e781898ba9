-- It enters the target for no failure.
use Rattle.std.proofs.Common.{◌≡◌, ◌∙◌, Option, None, Err, refl, sym, ap, subst}
use Rattle.std.proofs.lemmas.Result.{err_from_is_err_and}
use Rattle.mg_model.specs.Agent.{Agent}
use Rattle.mg_model.specs.Agent as model
use Rattle.mg_model.specs.Tables.{state_of}
use Rattle.agent.specs.AgentValue.{agent_of}
use Rattle.agent.specs.Entering.{IsEntered}
use Rattle.agent.proofs.StepLemmas.{refused, leads, passes}
use Rattle.agent.proofs.plain.Plain.prepared_pass.Goals as goal

pub returns-in_err-entered : goal.returns-in_err-entered
returns-in_err-entered c =
    let script = c.args.script.now in
    let a : Agent = agent_of c.args.self.now in
    let fault = c.in_err-entered.field-0.0 in
    let p = err_from_is_err_and c.from_residual.result c.from_residual.ensures.1 in
    let steps : model.passed script a ≡ model.entered_or_rests script a c.ok_of-target.result =
    passes script a c.ok_of-target.result c.if-not-is_passing.ensures (c.ok_of-target.ensures ∙ ap (λ s. (state_of script s).ok) (sym c.start-start.ensures.state)) in
    rw (p.1, p.2) (refused _ a a fault (subst (λ (s : Option Agent). IsEntered s a (Err fault)) (sym steps) (c.in_err-entered.ensures a (c.start-start.ensures))))

pub returns : goal.returns
returns c =
    let script = c.args.script.now in
    let a : Agent = agent_of c.args.self.now in
    let steps : model.passed script a ≡ model.entered_or_rests script a c.ok_of-target.result =
    passes script a c.ok_of-target.result c.if-not-is_passing.ensures (c.ok_of-target.ensures ∙ ap (λ s. (state_of script s).ok) (sym c.start-start.ensures.state)) in
    leads _ a a c.start-start.result c.in_ok-entered.entered None None c.new.result (steps ∙ c.in_ok-entered.ensures a (c.start-start.ensures)) (c.start-start.ensures) refl c.new.ensures.finished c.new.ensures.note tt

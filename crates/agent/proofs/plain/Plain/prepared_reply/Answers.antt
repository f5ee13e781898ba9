-- It leads on from what the reply binds.
use Rattle.std.proofs.Common.{◌≡◌, ◌∙◌, Option, None, Err, refl, sym, ap, subst}
use Rattle.std.proofs.lemmas.Result.{err_from_is_err_and}
use Rattle.mg_model.specs.Agent.{Agent}
use Rattle.mg_model.specs.Agent as model
use Rattle.agent.specs.AgentValue.{agent_of}
use Rattle.agent.specs.Entering.{IsEntered, leads_from}
use Rattle.agent.specs.Parts.{agent_in, bound_as}
use Rattle.agent.proofs.StepLemmas.{refused, leads, replies}
use Rattle.agent.proofs.plain.Plain.prepared_reply.Goals as goal

pub returns-in_err-entered : goal.returns-in_err-entered
returns-in_err-entered c =
    let script = c.args.script.now in
    let a : Agent = agent_of c.args.self.now in
    let reply = c.args.reply.now in
    let b : Agent = bound_as a (agent_in c.bindings_after-bindings.result) in
    let fault = c.in_err-entered.field-0.0 in
    let p = err_from_is_err_and c.from_residual.result c.from_residual.ensures.1 in
    let state = ap (λ s. leads_from script s b c.failure.result) c.start_with-start.ensures.state in
    let steps : model.replied script a reply ≡ leads_from script c.start_with-start.result.state b c.failure.result =
    replies script a b reply c.failure.result c.if-not-awaits.ensures c.bindings_after-bindings.ensures c.failure.ensures ∙ state in
    rw (p.1, p.2) (refused _ a b fault (subst (λ (s : Option Agent). IsEntered s b (Err fault)) (sym steps) (c.in_err-entered.ensures b (c.start_with-start.ensures))))

pub returns : goal.returns
returns c =
    let script = c.args.script.now in
    let a : Agent = agent_of c.args.self.now in
    let reply = c.args.reply.now in
    let b : Agent = bound_as a (agent_in c.bindings_after-bindings.result) in
    let state = ap (λ s. leads_from script s b c.failure.result) c.start_with-start.ensures.state in
    let steps : model.replied script a reply ≡ leads_from script c.start_with-start.result.state b c.failure.result =
    replies script a b reply c.failure.result c.if-not-awaits.ensures c.bindings_after-bindings.ensures c.failure.ensures ∙ state in
    leads _ a b c.start_with-start.result c.in_ok-entered.entered None None c.new.result (steps ∙ c.in_ok-entered.ensures b (c.start_with-start.ensures)) (c.start_with-start.ensures) refl c.new.ensures.finished c.new.ensures.note tt

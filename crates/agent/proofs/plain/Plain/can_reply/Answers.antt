-- It leads on from what the reply binds.
use Rattle.std.proofs.Common.{◌≡◌, ◌∙◌, sym, ap, is_some}
use Rattle.mg_model.specs.Agent.{Agent}
use Rattle.mg_model.specs.Agent as model
use Rattle.agent.specs.AgentValue.{agent_of}
use Rattle.agent.specs.Entering.{leads_from}
use Rattle.agent.specs.Parts.{agent_in, bound_as}
use Rattle.agent.proofs.StepLemmas.{replies}
use Rattle.agent.proofs.plain.Plain.can_reply.Goals as goal

pub returns : goal.returns
returns c =
    let script = c.args.script.now in
    let reply = c.args.reply.now in
    let a : Agent = agent_of c.args.self.now in
    let x : Agent = bound_as a (agent_in c.bindings_after-bindings.result) in
    let state = ap (λ s. leads_from script s x c.failure.result) c.start_with-start.ensures.state in
    let steps : model.replied script a reply ≡ leads_from script c.start_with-start.result.state x c.failure.result =
    replies script a x reply c.failure.result c.if-not-awaits.ensures c.bindings_after-bindings.ensures c.failure.ensures ∙ state in
    c.can_lead_on.ensures x c.start_with-start.ensures ∙ ap is_some (sym steps)

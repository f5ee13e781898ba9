-- What is put in place is what was prepared, part by part; what was awaited before is no part of it.
use Rattle.std.proofs.Common.{◌≡◌, ◌∙◌, option_map, ap, subst}
use Rattle.mg_model.specs.Agent.{Agent}
use Rattle.agent.specs.AgentValue.{agent_of}
use Rattle.agent.specs.PreparedValue.{PreparedValue, finished, in_newer}
use Rattle.agent.specs.Entering.{having}
use Rattle.agent.specs.Parts.{agent_in, bound_as}
use Rattle.agent.proofs.StepLemmas.{newer_given_up}
use Rattle.agent.proofs.plain.Plain.finish.Goals as goal

pub returns-clause-finished : goal.returns-clause-finished
unfolding finished agent_in
returns-clause-finished c =
    let a : Agent = agent_of c.args.self.now in
    let inside = c.prepared.inside in
    subst (λ (v : PreparedValue). agent_of c.put.new.self ≡ finished a v) c.prepared.view_is
    (c.put.ensures ∙ ap (λ (x : Agent). having x inside.entered)
    (c.bind.ensures ∙ ap (λ (x : Agent). bound_as x (agent_in inside.bindings)) (c.restart_in.ensures ∙ ap (λ (x : Agent). in_newer x (option_map (λ n. n.0) inside.association)) c.give_up-over.ensures.rests))
    ∙ ap (λ (x : Agent). having (bound_as x (agent_in inside.bindings)) inside.entered) (newer_given_up a (option_map (λ n. n.0) inside.association)))

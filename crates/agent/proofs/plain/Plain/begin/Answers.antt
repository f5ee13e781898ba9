-- The agent of the model, part by part.
use Rattle.std.proofs.Common.{◌≡◌, ◌∙◌, ap, subst}
use Rattle.delivery.specs.Inboxes.{inbox_of}
use Rattle.mg_model.specs.Agent.{Agent, begun, resting}
use Rattle.mg_model.specs.Delivery.{new_inbox}
use Rattle.agent.specs.AgentValue.{AgentValue, agent_of}
use Rattle.agent.specs.Parts.{agent_in}
use Rattle.agent.proofs.plain.Plain.begin.Goals as goal

pub returns : goal.returns
unfolding agent_of agent_in
returns c =
    let inbox : inbox_of c.restart.new.self ≡ new_inbox c.self.inside.notes.association = c.restart.ensures ∙ ap new_inbox c.association.ensures in
    let bound = c.unbound-self-inside.ensures in
    let new : Agent = record {
      call = c.args.call.0;
      state = c.start-self-inside.result;
      phase = resting;
      association = (inbox_of c.restart.new.self).association;
      lines = (agent_in c.unbound-self-inside.result).lines;
      contexts = (agent_in c.unbound-self-inside.result).contexts;
      ephemerals = (agent_in c.unbound-self-inside.result).ephemerals;
      next = c.self.inside.next;
      expected = (agent_in c.unbound-self-inside.result).expected;
      accepted = (inbox_of c.restart.new.self).accepted;
    } in
    subst (λ (v : AgentValue). new ≡ begun c.args.script.now c.args.call.0 (agent_of v)) c.self.view_is (λ i. record {
      call = c.args.call.0;
      state = c.start-self-inside.ensures i;
      phase = resting;
      association = (inbox i).association;
      lines = bound.lines i;
      contexts = bound.contexts i;
      ephemerals = bound.ephemerals i;
      next = c.self.inside.next;
      expected = bound.expected i;
      accepted = (inbox i).accepted;
    })

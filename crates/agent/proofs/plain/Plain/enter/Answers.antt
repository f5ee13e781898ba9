-- The agent of the model, part by part.
use Rattle.mg_model.specs.Agent.{resting}
use Rattle.agent.specs.AgentValue.{agent_of}
use Rattle.agent.specs.Parts.{agent_in}
use Rattle.agent.proofs.plain.Plain.enter.Goals as goal

pub returns : goal.returns
unfolding agent_of agent_in
returns c = λ i. record {
  call = c.args.call.0;
  state = c.start.ensures i;
  phase = resting;
  association = (c.new.ensures i).association;
  lines = c.opened.ensures.lines i;
  contexts = c.opened.ensures.contexts i;
  ephemerals = c.opened.ensures.ephemerals i;
  next = 1;
  expected = c.opened.ensures.expected i;
  accepted = (c.new.ensures i).accepted;
}

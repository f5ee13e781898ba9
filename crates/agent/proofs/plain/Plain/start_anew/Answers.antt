-- What is forgotten is bound no more.
use Rattle.std.proofs.Common.{subst, refl}
use Rattle.delivery.specs.Inboxes.{inbox_of}
use Rattle.mg_model.specs.Agent.{Agent, forgotten}
use Rattle.agent.specs.AgentValue.{AgentValue, agent_of, phase_of}
use Rattle.agent.specs.Entering.{Starts}
use Rattle.agent.specs.Parts.{agent_in}
use Rattle.agent.specs.declared.entering.Start.{Start}
use Rattle.agent.proofs.plain.Plain.start_anew.Goals as goal

pub returns : goal.returns
unfolding agent_of agent_in
returns c =
    let inside = c.self.inside in
    let whole : Agent = record {
      call = inside.call.0;
      state = inside.state;
      phase = phase_of inside.phase;
      association = inside.notes.association;
      lines = (agent_in inside.bindings).lines;
      contexts = (agent_in inside.bindings).contexts;
      ephemerals = (agent_in inside.bindings).ephemerals;
      next = inside.next;
      expected = (agent_in inside.bindings).expected;
      accepted = (inbox_of inside.notes).accepted;
    } in
    let bindings = c.forgotten.result in
    let bound = c.forgotten.ensures in
    let start : Start = record { call = c.self.inside.call; state = c.self.inside.state; association = c.args.association; next = c.self.inside.next; bindings = bindings } in
    subst (λ (v : AgentValue). Starts start (forgotten (agent_of v) c.args.association.0)) c.self.view_is (record {
      call = refl;
      state = refl;
      association = refl;
      next = refl;
      bound = λ i. record (forgotten whole c.args.association.0) { lines = bound.lines i; contexts = bound.contexts i; ephemerals = bound.ephemerals i; expected = bound.expected i };
    })

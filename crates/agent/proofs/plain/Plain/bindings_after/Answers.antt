-- The results change the bindings alone.
use Rattle.std.proofs.Common.{◌≡◌, ◌∙◌, List, sym, ap, subst}
use Rattle.delivery.specs.Inboxes.{inbox_of}
use Rattle.mg_model.specs.Agent.{Agent, after_results, built_by}
use Rattle.mg_model.specs.Items.{Done}
use Rattle.agent.specs.AgentValue.{AgentValue, agent_of, phase_of}
use Rattle.agent.specs.Parts.{agent_in, bound_as}
use Rattle.agent.proofs.AgentLemmas.{results_bound}
use Rattle.agent.proofs.plain.Plain.bindings_after.Goals as goal

pub returns : goal.returns
unfolding agent_of agent_in
returns c =
    let script = c.args.script.now in
    let reply = c.args.reply.now in
    let inside = c.self.inside in
    let whole : Agent = record {
      call = inside.call.0;
      state = inside.state;
      phase = phase_of inside.phase;
      association = inside.notes.association;
      lines = (agent_in inside.bindings).lines;
      contexts = (agent_in inside.bindings).contexts;
      ephemerals = (agent_in inside.bindings).ephemerals;
      next = inside.next;
      expected = (agent_in inside.bindings).expected;
      accepted = (inbox_of inside.notes).accepted;
    } in
    let b : Agent = agent_in inside.bindings in
    let commands = built_by script b inside.state in
    let after : Agent = agent_in c.after.result in
    subst (λ (v : AgentValue). bound_as (agent_of v) after ≡ after_results (agent_of v) (built_by script (agent_of v) (agent_of v).state) reply.results reply.number) c.self.view_is
    (ap (bound_as whole) c.after.ensures
    ∙ sym (results_bound whole b commands c.results.result.now c.number.result)
    ∙ ap (λ (results : List Done). after_results whole commands results c.number.result) c.results.ensures
    ∙ ap (after_results whole commands reply.results) c.number.ensures)

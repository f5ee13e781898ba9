-- What is prepared overwrites what the call waits for, so a copy that rests is led to the same agent.
use Rattle.std.proofs.Common.{◌≡◌, ◌∙◌, ℕ, Option, Some, None, refl, sym, ap, slice_index_or}
use Rattle.mg_model.specs.Agent.{Agent}
use Rattle.agent.specs.AgentValue.{agent_of}
use Rattle.agent.specs.PreparedValue.{PreparedValue, finished}
use Rattle.agent.specs.Preparing.{with_note}
use Rattle.agent.specs.Steps.{given_up}
use Rattle.agent.proofs.StepLemmas.{newer_given_up}
use Rattle.agent.proofs.plain.Plain.after.Goals as goal

note_at_rest : (a : Agent) (note : Option ℕ) → with_note (given_up a) note ≡ given_up (with_note a note)
note_at_rest a None = refl
note_at_rest a (Some number) = refl

finished_at_rest : (a : Agent) (p : PreparedValue) → finished (given_up a) p ≡ finished a p
unfolding finished
finished_at_rest a p =
    ap (λ (x : Agent). record x {
      state = p.state;
      phase = p.phase;
      lines = λ i. slice_index_or p.lines i 0;
      contexts = λ j. slice_index_or p.contexts j None;
      ephemerals = λ k. slice_index_or p.ephemerals k None;
      next = p.next;
      expected = λ i. slice_index_or p.expected i None;
    }) (newer_given_up a p.association)

pub returns : goal.returns
returns c =
    let a = agent_of c.args.self.now in
    let p = c.in_ok-step.step in
    c.in_ok-step.ensures.0
    ∙ ap (λ (x : Agent). Some x)
    (sym (finished_at_rest (with_note a p.note) p)
    ∙ ap (λ (x : Agent). finished x p) (sym (note_at_rest a p.note) ∙ ap (λ (x : Agent). with_note x p.note) (sym c.in-Ok.ensures)
    ∙ sym (c.in-Ok-accept_if.ensures ∙ ap (λ (v : PreparedValue). with_note (agent_of c.in-Ok.after) v.note) c.step.view_is))
    ∙ sym c.finish.ensures.finished)

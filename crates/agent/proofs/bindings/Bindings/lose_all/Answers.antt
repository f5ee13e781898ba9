-- The context, the ephemerals and the lines, one after the other.
use Rattle.std.proofs.Common.{ℕ, ◌∙◌, None, List, map, ap}
use Rattle.mg_names.specs.declared.identifiers.LineNo.{LineNo}
use Rattle.mg_model.specs.Agent.{Agent}
use Rattle.mg_model.specs.Updates.{with_at}
use Rattle.agent.specs.Parts.{agent_in, without_listed, without_lines}
use Rattle.agent.proofs.bindings.Bindings.lose_all.Goals as goal

abbrev less_lines : List ℕ → Agent → Agent
less_lines gone a = record a { expected = without_lines gone a.lines a.expected }

abbrev less_ephemerals : List ℕ → Agent → Agent
less_ephemerals gone a = record a { ephemerals = without_listed gone a.ephemerals }

pub returns : goal.returns
returns c = λ n.
    let without : Agent = record (agent_in c.args.self.now) { contexts = with_at (agent_in c.args.self.now).contexts c.args.context None } in
    let ephemerals = c.ephemerals.result.now in
    let lines = map (λ (l : LineNo). l.0) c.lines.result.now in
    c.lose_lines.ensures ∙ ap (less_lines lines) c.lose_ephemerals.ensures ∙ ap (λ a. less_lines lines (less_ephemerals ephemerals a)) c.lose_context.ensures
    ∙ ap (λ (gone : List ℕ). less_lines lines (less_ephemerals gone without)) c.ephemerals.ensures
    ∙ ap (λ (gone : List ℕ). less_lines gone (less_ephemerals c.args.done.now.ephemerals without)) c.lines.ensures

-- It leads on once the note is accepted, or leaves the call at rest.
use Rattle.std.proofs.Common.{◌≡◌, ◌∙◌, Option, Some, None, Err, refl, sym, ap, subst}
use Rattle.std.proofs.lemmas.Result.{err_from_is_err_and}
use Rattle.mg_model.specs.Agent.{Agent}
use Rattle.mg_model.specs.Agent as model
use Rattle.mg_model.specs.Tables.{line_places}
use Rattle.agent.specs.AgentValue.{agent_of}
use Rattle.agent.specs.Entering.{IsEntered}
use Rattle.agent.specs.Steps.{accepting}
use Rattle.agent.proofs.StepLemmas.{refused, leads, notes, is_new_note, starts_accepting}
use Rattle.agent.proofs.plain.Plain.prepared_note.Goals as goal

pub returns-in_err-entered : goal.returns-in_err-entered
returns-in_err-entered c =
    let script = c.args.script.now in
    let a : Agent = agent_of c.args.self.now in
    let note = c.args.note.now in
    let b : Agent = accepting a note.number in
    let fault = c.in_err-entered.field-0.0 in
    let p = err_from_is_err_and c.from_residual.result c.from_residual.ensures.1 in
    let steps : model.noted script a (line_places script) note ≡ model.entered_or_rests script b c.target_of-target.result =
    notes script a (line_places script) note c.target_of-target.result c.if-not-may_accept.ensures c.target_of-target.ensures in
    rw (p.1, p.2) (refused _ a b fault (subst (λ (s : Option Agent). IsEntered s b (Err fault)) (sym steps) (c.in_err-entered.ensures b (starts_accepting c.start-start.result a note.number c.start-start.ensures))))

pub returns : goal.returns
returns c =
    let script = c.args.script.now in
    let a : Agent = agent_of c.args.self.now in
    let note = c.args.note.now in
    let b : Agent = accepting a note.number in
    let steps : model.noted script a (line_places script) note ≡ model.entered_or_rests script b c.target_of-target.result =
    notes script a (line_places script) note c.target_of-target.result c.if-not-may_accept.ensures c.target_of-target.ensures in
    leads _ a b c.start-start.result c.in_ok-entered.entered None (Some note.number) c.new.result (steps ∙ c.in_ok-entered.ensures b (starts_accepting c.start-start.result a note.number c.start-start.ensures)) (starts_accepting c.start-start.result a note.number c.start-start.ensures) refl c.new.ensures.finished (c.new.ensures.note ∙ ap (λ n. Some n) c.number.ensures) (is_new_note script a note c.if-not-may_accept.ensures)

-- It enters the restart state with nothing bound.
use Rattle.std.proofs.Common.{◌≡◌, ◌∙◌, Option, arith, Some, None, Err, refl, sym, subst}
use Rattle.std.proofs.lemmas.Result.{err_from_is_err_and}
use Rattle.mg_model.specs.Agent.{Agent}
use Rattle.mg_model.specs.Agent as model
use Rattle.agent.specs.AgentValue.{agent_of}
use Rattle.agent.specs.Entering.{IsEntered}
use Rattle.agent.proofs.StepLemmas.{refused, leads, hears}
use Rattle.agent.proofs.plain.Plain.prepared_hear.Goals as goal

pub returns-in_err-entered : goal.returns-in_err-entered
returns-in_err-entered c =
    let script = c.args.script.now in
    let a : Agent = agent_of c.args.self.now in
    let n = c.args.association.0 in
    let b : Agent = model.forgotten a n in
    let fault = c.in_err-entered.field-0.0 in
    let p = err_from_is_err_and c.from_residual.result c.from_residual.ensures.1 in
    let steps : model.heard script a n ≡ model.entered script b c.restart.result = hears script a n c.restart.result (omega arith) c.restart.ensures in
    rw (p.1, p.2) (refused _ a b fault (subst (λ (s : Option Agent). IsEntered s b (Err fault)) (sym steps) (c.in_err-entered.ensures b (c.start_anew-start.ensures))))

pub returns : goal.returns
returns c =
    let script = c.args.script.now in
    let a : Agent = agent_of c.args.self.now in
    let n = c.args.association.0 in
    let b : Agent = model.forgotten a n in
    let steps : model.heard script a n ≡ model.entered script b c.restart.result = hears script a n c.restart.result (omega arith) c.restart.ensures in
    leads _ a b c.start_anew-start.result c.in_ok-entered.entered (Some n) None c.new.result (steps ∙ c.in_ok-entered.ensures b (c.start_anew-start.ensures)) (c.start_anew-start.ensures) refl c.new.ensures.finished c.new.ensures.note tt

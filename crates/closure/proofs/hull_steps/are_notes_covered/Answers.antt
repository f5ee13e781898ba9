-- No list raises such a note, or entries have all where it leads.
use Rattle.std.proofs.Common.{◌≡◌, ◌∙◌, ℕ, true, false, map, ap, rules}
use Rattle.mg_model.specs.Configuration.{Configuration}
use Rattle.mg_model.specs.Tables.{items_of, raises, state_of, target_in}
use Rattle.configuration.specs.Config.{configuration_of}
use Rattle.closure.proofs.HullLemmas.{each_passed}
use Rattle.closure.proofs.HullSteps.{no_notes, notes_enter}
use Rattle.closure.proofs.hull_steps.are_notes_covered.Goals as goal

pub returns-then-all : goal.returns-then-all
returns-then-all c holds =
    no_notes c.args.script.now c.args.cert.now (map configuration_of c.args.hull.now) (configuration_of c.args.one.now) c.requires c.args.notes.line c.args.notes.kind
    (each_passed _ _ true (λ (d : Configuration). raises (items_of c.args.script.now (d.events c.args.notes.line)) c.args.notes.kind ≡ false) c.args.hull.now
    (c.all.ensures c.if-all.true) (λ x e. search rules))

pub returns : goal.returns
returns c holds =
    notes_enter c.args.script.now c.args.cert.now (map configuration_of c.args.hull.now) (configuration_of c.args.one.now) c.requires c.args.notes.line c.args.notes.kind
    c.target_of-target.result
    (c.target_of-target.ensures ∙ ap (λ (state : ℕ). target_in (state_of c.args.script.now state).on c.args.notes.line c.args.notes.kind) c.state.ensures)
    (c.is_entered.ensures holds)

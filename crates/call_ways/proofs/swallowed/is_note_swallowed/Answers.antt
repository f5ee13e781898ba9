-- What is told of lists that raise the note.
use Rattle.std.proofs.Common.{◌∙◌, sym}
use Rattle.mg_model.proofs.Cases.{none_of}
use Rattle.call_ways.proofs.Warned.{note_swallowed}
use Rattle.call_ways.proofs.swallowed.is_note_swallowed.Goals as goal

pub returns : goal.returns
returns c =
    note_swallowed c.args.script.now c.args.reached.now c.is_shown.result c.args.state c.args.line c.args.kind
    (λ same. c.if-state-start.false (same ∙ sym c.start.ensures))
    (sym c.ends_in.ensures ∙ c.if-ends_in.false)
    (sym c.target_of.ensures ∙ none_of c.target_of.result (sym c.is_some.ensures ∙ c.if-is_some.false)) c.is_shown.ensures

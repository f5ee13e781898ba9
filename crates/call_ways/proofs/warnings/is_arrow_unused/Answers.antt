-- What is told of standing in the state and of lists that raise the note.
use Rattle.std.proofs.Common.{◌∙◌, ap, not}
use Rattle.call_ways.proofs.Warned.{arrow_unused}
use Rattle.call_ways.proofs.warnings.is_arrow_unused.Goals as goal

pub returns : goal.returns
returns c =
    arrow_unused c.args.script.now c.args.reached.now c.is_shown_without.result c.args.state c.args.line c.args.kind
    (rw c.target_of.ensures at (c.is_none.ensures ∙ ap not c.if-is_none.false)) c.is_shown_without.ensures

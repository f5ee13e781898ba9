-- What is told of standing in the state and of leaving it.
use Rattle.std.proofs.Common.{◌∙◌, sym}
use Rattle.call_ways.proofs.Warned.{never_left}
use Rattle.call_ways.proofs.warnings.is_never_left.Goals as goal

pub returns : goal.returns
returns c =
    never_left c.args.script.now c.args.reached.now c.is_shown_without.result c.args.state (sym c.ends_in.ensures ∙ c.if-ends_in.false)
    c.is_shown_without.ensures

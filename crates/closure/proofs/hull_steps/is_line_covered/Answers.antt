-- Those of each kind are.
use Rattle.std.proofs.Common.{map}
use Rattle.configuration.specs.Config.{configuration_of}
use Rattle.closure.proofs.HullSteps.{line_covered}
use Rattle.closure.proofs.hull_steps.is_line_covered.Goals as goal

pub returns : goal.returns
returns c holds =
    line_covered c.args.script.now c.args.cert.now (map configuration_of c.args.hull.now) (configuration_of c.args.one.now) c.requires c.args.line
    (c.are_notes_covered.ensures c.if-not-are_notes_covered.false)
    (c.are_notes_covered-2.ensures c.if-not-are_notes_covered-2.false)
    (c.are_notes_covered-3.ensures c.if-not-are_notes_covered-3.false)
    (c.are_notes_covered-4.ensures c.if-not-are_notes_covered-4.false)
    (c.are_notes_covered-5.ensures holds)

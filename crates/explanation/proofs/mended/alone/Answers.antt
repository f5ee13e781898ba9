-- It has one point.
use Rattle.std.proofs.Common.{arith}
use Rattle.configuration.specs.Config.{configuration_of}
use Rattle.entry_table.specs.Shown.{shown_all}
use Rattle.explanation.proofs.Single.{one_point}
use Rattle.explanation.proofs.mended.alone.Goals as goal

pub new-requires-clause-some : goal.new-requires-clause-some
new-requires-clause-some c =
    let one = one_point (configuration_of c.args.config.now) (shown_all c.add_cuts.new.components.items) c.in_ok-add_cuts.ensures.only in
    omega (arith, one)

pub new-requires-clause-within : goal.new-requires-clause-within
new-requires-clause-within c =
    let one = one_point (configuration_of c.args.config.now) (shown_all c.add_cuts.new.components.items) c.in_ok-add_cuts.ensures.only in
    omega (arith, one)

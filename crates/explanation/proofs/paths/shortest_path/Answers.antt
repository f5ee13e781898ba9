-- No path goes over fewer crossings than were tried; at the end, all were.
use Rattle.std.proofs.Common.{arith}
use Rattle.configuration.specs.Config.{configuration_of}
use Rattle.explanation.specs.Paths.{shown}
use Rattle.explanation.proofs.Ways.{shortest}
use Rattle.explanation.proofs.paths.shortest_path.Goals as goal

pub returns-in-Some-clause-some : goal.returns-in-Some-clause-some
returns-in-Some-clause-some c =
    shortest (configuration_of c.args.config.now) c.args.from.now c.args.to (shown c.in-Some.path.items) c.loop-left.left
    (rw c.in-Some.is at c.in_ok-path.ensures.some) c.loop-left.invariant

pub returns-clause-none : goal.returns-clause-none
returns-clause-none c = c.loop-left.invariant 4 (omega (arith, c.loop-left-test.false))

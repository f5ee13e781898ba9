-- Who stands there in none isn't asked for.
use Rattle.std.proofs.Common.{map}
use Rattle.configuration.specs.Config.{configuration_of}
use Rattle.closure.proofs.HullEmptying.{nobody_stands}
use Rattle.closure.proofs.hull_emptying.stand_too.Goals as goal

pub returns-then-is_nowhere-clause-there : goal.returns-then-is_nowhere-clause-there
returns-then-is_nowhere-clause-there c =
    nobody_stands (map configuration_of c.args.hull.now) c.args.context (configuration_of c.args.config.now) c.args.termination.now
    (c.is_nowhere.ensures c.if-is_nowhere.true)

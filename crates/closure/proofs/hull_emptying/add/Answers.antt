-- It is there, or was added.
use Rattle.std.proofs.Common.{rules}
use Rattle.configuration.specs.Config.{configuration_of}
use Rattle.closure.proofs.HullLemmas.{added_there, contains_map, still_there}
use Rattle.closure.proofs.hull_emptying.add.Goals as goal

pub returns-in-Some-clause-there : goal.returns-in-Some-clause-there
returns-in-Some-clause-there c = contains_map configuration_of c.args.hull.now c.args.config.now (search rules)

pub returns-clause-kept : goal.returns-clause-kept
returns-clause-kept c = still_there configuration_of c.args.hull.now c.push.new.self c.args.config.now c.in_ok-push.ensures

pub returns-clause-there : goal.returns-clause-there
returns-clause-there c = added_there configuration_of c.args.hull.now c.push.new.self c.args.config.now c.in_ok-push.ensures

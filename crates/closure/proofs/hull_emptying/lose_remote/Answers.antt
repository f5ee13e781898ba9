-- Who leaves in all has no Remote, and one that names none that may leave loses none.
use Rattle.std.proofs.Common.{true, map, rules}
use Rattle.configuration.specs.Config.{configuration_of}
use Rattle.closure.specs.Emptying.{NamesNoneOf}
use Rattle.closure.proofs.HullEmptying.{leaves_itself, none_lost}
use Rattle.closure.proofs.HullLemmas.{each_passed}
use Rattle.closure.proofs.hull_emptying.lose_remote.Goals as goal

pub returns-then-does_each_stand-clause-lost : goal.returns-then-does_each_stand-clause-lost
returns-then-does_each_stand-clause-lost c =
    leaves_itself (map configuration_of c.args.hull.now) c.args.context (configuration_of c.args.gone.now) c.args.ephemeral
    (c.does_each_stand.ensures c.if-does_each_stand.true)

pub returns-then-all-clause-lost : goal.returns-then-all-clause-lost
returns-then-all-clause-lost c =
    none_lost (map configuration_of c.args.hull.now) c.args.context (configuration_of c.args.gone.now) c.args.ephemeral
    (each_passed _ _ true (NamesNoneOf (map configuration_of c.args.hull.now) c.args.context c.args.ephemeral) c.args.hull.now (c.all.ensures c.if-all.true)
    (λ x e. search rules))

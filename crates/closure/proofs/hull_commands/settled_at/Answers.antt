-- The name is as it was, or stands for what exists, or is settled in each.
use Rattle.std.proofs.Common.{◌≡◌, ℕ, true, false, map, subst, slice_index_or}
use Rattle.configuration.specs.Config.{configuration_of}
use Rattle.closure.proofs.HullPlaces.{all_settled, alone_settled}
use Rattle.closure.proofs.HullSurviving.{surviving_settled}
use Rattle.closure.proofs.hull_commands.settled_at.Goals as goal

pub returns-then-leaves_alone : goal.returns-then-leaves_alone
returns-then-leaves_alone c script =
    alone_settled script (map configuration_of c.args.hull.now) (map configuration_of c.args.made) c.args.command.now c.args.surviving.now
    c.args.name (c.leaves_alone.ensures c.if-leaves_alone.true)

pub returns-then-surviving-index : goal.returns-then-surviving-index
returns-then-surviving-index c =
    surviving_settled (map configuration_of c.args.hull.now) (map configuration_of c.args.made) c.args.command.now c.args.surviving.now c.args.name
    (subst (λ (place : ℕ). slice_index_or c.args.surviving.now place false ≡ true) c.index.ensures.value c.if-surviving-index.true) c.valued_each.result
    c.valued_each.ensures

pub returns : goal.returns
returns c =
    all_settled (map configuration_of c.args.hull.now) (map configuration_of c.args.made) c.args.command.now c.args.surviving.now c.args.name c.settled_each.result
    c.settled_each.ensures

-- The history is a run of a script with few commands in a state, on a gateway of a class of at most 16.
use Rattle.std.proofs.Common.{subst}
use Rattle.shards.proofs.LastingShards.{left}
use Rattle.shards.specs.Lasting.{IdentifiersAreLeft}
use Rattle.shards.proofs.shard.Shard.identifiers_are_left.Goals as goal

pub returns : goal.returns
returns c = subst IdentifiersAreLeft c.self.view_is (left _ c.self.invariant c.identifiers_are_left.ensures)

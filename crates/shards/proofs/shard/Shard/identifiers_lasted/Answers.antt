-- The history is a run of a script with few commands in a state, on a gateway of a class of at most 16.
use Rattle.std.proofs.Common.{subst}
use Rattle.shards.proofs.LastingShards.{lasting}
use Rattle.shards.specs.Lasting.{IdentifiersLasted}
use Rattle.shards.proofs.shard.Shard.identifiers_lasted.Goals as goal

pub returns : goal.returns
returns c = subst IdentifiersLasted c.self.view_is (lasting _ c.self.invariant c.identifiers_last.ensures)

use Rattle.std.proofs.Common.{◌≡◌, take}
use Rattle.shards.specs.Shards.{part_of}
use Rattle.shards.proofs.shard.Shard.part.Given as goal

abbrev pub invariant-loop-event : goal.invariant-loop-event
invariant-loop-event l = l.part.items ≡ part_of l.call.0 (take l.event-index l.event-items)

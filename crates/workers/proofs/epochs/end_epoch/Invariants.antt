-- As many shards restarted as were counted.
use Rattle.std.proofs.Common.{◌≡◌}
use Rattle.workers.proofs.epochs.end_epoch.Given as goal

abbrev pub invariant-loop-shard : goal.invariant-loop-shard
invariant-loop-shard g l = l.restarted ≡ l.shard-index

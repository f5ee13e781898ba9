-- The shards so far ended each epoch after as many restarts.
use Rattle.std.proofs.Common.{◌≡◌, take}
use Rattle.std.specs.Prelude.{Contains}
use Rattle.run_shards.specs.declared.shard_count.ShardCount.{ShardCount}
use Rattle.run_account.specs.TakenAll.{ends_of_first}
use Rattle.run_account.proofs.taken_all.end_together.Given as goal

abbrev pub invariant-loop-count : goal.invariant-loop-count
invariant-loop-count l = (c : ShardCount) → Contains (take l.count-index l.counts) c → c.ends.items ≡ ends_of_first l.counts

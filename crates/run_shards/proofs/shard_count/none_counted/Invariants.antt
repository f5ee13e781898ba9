-- So many are there, and nothing is counted of any.
use Rattle.std.proofs.Common.{◌≡◌, length}
use Rattle.run_shards.specs.Counting.{AreNoneCounted}
use Rattle.run_shards.proofs.shard_count.none_counted.Given as goal

abbrev pub invariant-loop : goal.invariant-loop
invariant-loop l = record {
  all : length l.counts.items ≡ l.counter;
  none : AreNoneCounted l.counts.items;
}

-- The calls so far that stand in the shard have no step left.
use Rattle.std.proofs.Common.{◌≡◌, ◌<◌, ℕ, None}
use Rattle.std.specs.Prelude.{◌%◌}
use Rattle.run_shards.specs.Counting.{place_of}
use Rattle.run_shards.specs.PlanSteps.{step_at}
use Rattle.run_shards.proofs.shard_count.ShardCount.is_at_end.Given as goal

abbrev pub invariant-loop : goal.invariant-loop
invariant-loop l = record {
  first : l.first ≡ l.index;
  ended : (first : ℕ) → first < l.first → first % l.count ≡ l.number → step_at l.plan.calls first l.self.epoch (place_of l.self first) ≡ None;
}

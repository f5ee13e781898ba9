-- One shard more is the next one.
use Rattle.std.proofs.Common.{◌≡◌, ◌∙◌, ◌+◌, ◌++◌, ℕ, List, [], ◌∷◌, length, sym, ap, subst, arith}
use Rattle.std.proofs.lemmas.List.{length-append}
use Rattle.planned_calls.specs.Shards.{ShardValue}
use Rattle.planned_calls.specs.RunShards.{AreOfRun, IsOfRun}
use Rattle.planned_calls.proofs.RunShardsLemmas.{kept_more}
use Rattle.run_shards.specs.Counting.{AreCounted, IsCounted}
use Rattle.run_shards.specs.declared.shard_count.ShardCount.{ShardCount}
use Rattle.run_shards.proofs.CountedLists.{counted_more}
use Rattle.run_shards.proofs.joined.unlocked.Goals as goal

pub loop-lock-preserved : goal.loop-lock-preserved
loop-lock-preserved g c =
    let script = g.B.Running.script in
    let calls = g.B.Running.calls in
    let count = g.B.Running.count in
    let before = c.loop-lock.shards.items in
    let counted = c.loop-lock.counts.items in
    let shard = c.parts-shard.result.0 in
    let items : c.push.new.self.items ≡ before ++ shard ∷ [] = c.in_ok-push.ensures.items in
    let count_items : c.push-in-loop-lock.new.self.items ≡ counted ++ c.parts-shard.result.1 ∷ [] = c.in_ok-push-2.ensures.items in
    let place : c.parts-shard.result.2 ≡ 0 + length before =
    c.if-number-place.false ∙ c.loop-lock.invariant.place ∙ (let same : length before ≡ 0 + length before = omega arith in same) in
    record {
      place = omega (arith, c.in-Some-checked_add.ensures.1, c.loop-lock.invariant.place, ap (λ (vs : List ShardValue). length vs) items, length-append before (shard ∷ []));
      kept = subst (λ (vs : List ShardValue). AreOfRun script calls count 0 vs) (sym items)
          (kept_more script calls count 0 before shard c.loop-lock.invariant.kept
          (subst (λ (n : ℕ). IsOfRun script calls count n shard) place c.parts-shard.ensures.of_run));
      counted = subst (λ (vs : List ShardValue). AreCounted script calls count 0 vs c.push-in-loop-lock.new.self.items) (sym items)
          (subst (λ (cs : List ShardCount). AreCounted script calls count 0 (before ++ shard ∷ []) cs) (sym count_items)
          (counted_more script calls count 0 before shard counted c.parts-shard.result.1 c.loop-lock.invariant.counted
          (subst (λ (n : ℕ). IsCounted script calls count n shard c.parts-shard.result.1) place c.parts-shard.ensures.counted)));
    }

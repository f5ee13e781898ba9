-- One shard more that is counted.
use Rattle.std.proofs.Common.{◌≡◌, ◌+◌, ◌++◌, ℕ, suc, List, [], ◌∷◌, length, subst, arith}
use Rattle.mg_model.specs.Plans.{PlanCall}
use Rattle.mg_model.specs.Script.{Script}
use Rattle.planned_calls.specs.Shards.{ShardValue}
use Rattle.run_shards.specs.Counting.{AreCounted, IsCounted}
use Rattle.run_shards.specs.declared.shard_count.ShardCount.{ShardCount}

pub counted_more : (script : Script) (calls : List PlanCall) (count number : ℕ) (vs : List ShardValue) (v : ShardValue) (cs : List ShardCount) (c : ShardCount)
    → AreCounted script calls count number vs cs → IsCounted script calls count (number + length vs) v c
    → AreCounted script calls count number (vs ++ v ∷ []) (cs ++ c ∷ [])
counted_more script calls count number [] v [] c all last =
    (subst (λ (n : ℕ). IsCounted script calls count n v c) (let same : number + 0 ≡ number = omega arith in same) last, tt)
counted_more script calls count number [] v (other ∷ cs) c all last = absurd all
counted_more script calls count number (first ∷ more) v [] c all last = absurd all
counted_more script calls count number (first ∷ more) v (one ∷ cs) c (is, all) last = (
  is,
  counted_more script calls count (number + 1) more v cs c all
      (subst (λ (n : ℕ). IsCounted script calls count n v c) (let same : number + suc (length more) ≡ number + 1 + length more = omega arith in same) last),
)

-- One shard more of a run.
use Rattle.std.proofs.Common.{◌≡◌, ◌+◌, ◌++◌, ℕ, suc, List, [], ◌∷◌, length, subst, arith}
use Rattle.mg_model.specs.Plans.{PlanCall}
use Rattle.mg_model.specs.Script.{Script}
use Rattle.shards.specs.Shards.{ShardValue}
use Rattle.planned_calls.specs.RunShards.{AreOfRun, IsOfRun}

pub kept_more : (script : Script) (calls : List PlanCall) (count number : ℕ) (vs : List ShardValue) (v : ShardValue)
    → AreOfRun script calls count number vs → IsOfRun script calls count (number + length vs) v → AreOfRun script calls count number (vs ++ v ∷ [])
kept_more script calls count number [] v all last =
    (subst (λ (n : ℕ). IsOfRun script calls count n v) (let same : number + 0 ≡ number = omega arith in same) last, tt)
kept_more script calls count number (first ∷ more) v (one, all) last = (
  one,
  kept_more script calls count (number + 1) more v all
      (subst (λ (n : ℕ). IsOfRun script calls count n v) (let same : number + suc (length more) ≡ number + 1 + length more = omega arith in same) last),
)

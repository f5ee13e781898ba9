-- The statement of the law of the merge, which an empty function carries. A reader should check its premises: each is one that shards can keep by
-- themselves.
use Rattle.std.specs.Prelude.{◌≡◌, ℕ, List, ◌∷◌, Contains}
use Rattle.mg_model.specs.Accepted.{IsScript}
use Rattle.mg_model.specs.Script.{Script}
use Rattle.mg_model.specs.Shards.{Shard, IsShardRun, AreAllApart, IsMergedRun, restarts_in}

-- where the script is as its reader accepts it, each shard's history is a run, nothing is of two shards, and all were restarted equally often, the merge is a run
abbrev pub MergesAreRuns : Type 0
MergesAreRuns =
    (script : Script) (first : Shard) (others : List Shard) (restarts : ℕ) → IsScript script
    → ((shard : Shard) → Contains (first ∷ others) shard → IsShardRun script shard × (restarts_in shard.history ≡ restarts))
    → AreAllApart script (first ∷ others) → IsMergedRun script (first ∷ others) restarts

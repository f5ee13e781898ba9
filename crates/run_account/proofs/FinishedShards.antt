-- The shards of a run, as the model has them.
use Rattle.std.proofs.Common.{◌≡◌, ◌+◌, ℕ, suc, List, [], ◌∷◌, length, map, refl, ap}
use Rattle.mg_model.specs.Shards.{History, Shard, cut_at_restarts, histories}
use Rattle.run_shards.specs.Shards.{ShardValue, opened_as}
use Rattle.run_account.specs.Finishing.{AreFinished, IsFinished}
use Rattle.run_shards.specs.Parts.{numbers_in}

abbrev pub shard_of : (count restarts number : ℕ) (v : ShardValue) → IsFinished restarts v → Shard
shard_of count restarts number v is = record {
  calls = map opened_as v.calls;
  numbers = numbers_in count number;
  start = is.kept.is_world.start;
  history = v.history;
  end = is.kept.world;
}

abbrev pub shards_from : (count restarts number : ℕ) (vs : List ShardValue) → AreFinished restarts vs → List Shard
shards_from count restarts number [] all = []
shards_from count restarts number (v ∷ more) (one, others) = shard_of count restarts number v one ∷ shards_from count restarts (number + 1) more others

pub all_shards : (count restarts number : ℕ) (vs : List ShardValue) (all : AreFinished restarts vs)
    → length (shards_from count restarts number vs all) ≡ length vs
all_shards count restarts number [] all = refl
all_shards count restarts number (v ∷ more) (one, others) = ap suc (all_shards count restarts (number + 1) more others)

pub all_histories : (count restarts number : ℕ) (vs : List ShardValue) (all : AreFinished restarts vs)
    → histories (shards_from count restarts number vs all) ≡ map cut_at_restarts (map (λ v. v.history) vs)
all_histories count restarts number [] all = refl
all_histories count restarts number (v ∷ more) (one, others) =
    ap (λ (hs : List History). cut_at_restarts v.history ∷ hs) (all_histories count restarts (number + 1) more others)

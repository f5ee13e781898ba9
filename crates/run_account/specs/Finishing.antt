-- What is left of a shard of a run once its threads are joined. A reader should check that it is whatever run of its own, restarted so often, in which no
-- identifier was wanted in vain; and that one is said not to be so only where its history shows it. This profile's own.
use Rattle.std.specs.Prelude.{◌≡◌, ℕ, ◌<◌, ◌≤◌, ◌⊎◌, List, [], ◌∷◌, Contains}
use Rattle.mg_merge.specs.Identifiers.{executes_in, most_executes}
use Rattle.mg_model.specs.Shards.{RunsWithin, restarts_in}
use Rattle.mg_model.specs.World.{World}
use Rattle.run_shards.specs.Shards.{IsShard, IsWorldOf, ShardValue}

-- it kept its run, with identifiers left before each event, was restarted so often, and executed no more than a plan may
pub record IsFinished (restarts : ℕ) (v : ShardValue) : Type 0 where
  pub kept : IsShard v
  pub lasted : (w : World) (is : IsWorldOf v w) → RunsWithin v.script v.history is.start w
  pub restarted : restarts_in v.history ≡ restarts
  pub executes : executes_in v.history ≤ most_executes

abbrev pub AreFinished : ℕ → List ShardValue → Type 0
AreFinished restarts [] = Unit {0}
AreFinished restarts (v ∷ more) = IsFinished restarts v × AreFinished restarts more

-- ---- where one isn't so

-- it was restarted more or less often, or it executed more than a plan may
abbrev pub IsUnfinished : ℕ → ShardValue → Type 0
IsUnfinished restarts v = (restarts_in v.history ≡ restarts → ⊥) ⊎ (most_executes < executes_in v.history)

-- there is such a shard among them
abbrev pub HasUnfinished : ℕ → List ShardValue → Type 0
HasUnfinished restarts vs = (v : ShardValue) × Contains vs v × IsUnfinished restarts v

-- Whether the steps that are counted in a shard are all of the plan's. A reader should check that none of them is left: no call of the shard has one left in this
-- epoch, no epoch comes after it, and each restart that some call asks for is counted. This profile's own.
use Rattle.std.specs.Prelude.{◌≡◌, ℕ, ◌+◌, max, true, false, List, [], ◌∷◌, Contains, Some, slice_get}
use Rattle.mg_model.specs.Plans.{Plan, epochs_of, restarts_of_all}
use Rattle.run_shards.specs.Counting.{AreAtEnd, HasStepsLeft}
use Rattle.run_shards.specs.declared.shard_count.ShardCount.{ShardCount}

-- by what is counted of the shard with this number
pub record HasTakenAll (plan : Plan) (number : ℕ) (c : ShardCount) : Type 0 where
  pub whole : c.is_whole ≡ true
  pub ended : AreAtEnd plan.calls plan.shards number c
  -- where no call of the plan has an epoch, it has gone by as one
  pub epochs : c.epoch + 1 ≡ max 1 (epochs_of plan.calls)
  pub restarts : c.restarts ≡ restarts_of_all plan.calls

-- of shards with numbers from this one on
abbrev pub HaveTakenAll : Plan → (number : ℕ) → List ShardCount → Type 0
HaveTakenAll plan number [] = Unit {0}
HaveTakenAll plan number (c ∷ more) = HasTakenAll plan number c × HaveTakenAll plan (number + 1) more

-- ---- the ends of epochs

-- how many restarts calls had asked for at the end of each epoch, in the first shard
abbrev pub ends_of_first : List ShardCount → List ℕ
ends_of_first [] = []
ends_of_first (c ∷ more) = c.ends.items

-- as many in each: so epochs end at the same restart in all shards
abbrev pub EndTogether : List ShardCount → Type 0
EndTogether cs = (c : ShardCount) → Contains cs c → c.ends.items ≡ ends_of_first cs

-- one had asked for more or fewer
abbrev pub HasOtherEnds : List ShardCount → Type 0
HasOtherEnds cs = (c : ShardCount) × Contains cs c × (c.ends.items ≡ ends_of_first cs → ⊥)

-- ---- where some are left

pub data HasNotTakenAll (plan : Plan) (number : ℕ) (c : ShardCount) : Type 0 where
  -- a step met trouble
  not_whole : c.is_whole ≡ false → HasNotTakenAll plan number c
  steps_left : HasStepsLeft plan.calls plan.shards number c → HasNotTakenAll plan number c
  -- it isn't the plan's last epoch
  other_epoch : (c.epoch + 1 ≡ max 1 (epochs_of plan.calls) → ⊥) → HasNotTakenAll plan number c
  -- more or fewer restarts are counted than all calls ask for
  other_restarts : (c.restarts ≡ restarts_of_all plan.calls → ⊥) → HasNotTakenAll plan number c

-- in some shard
pub record HasOneLeft (plan : Plan) (cs : List ShardCount) : Type 0 where
  pub number : ℕ
  pub count : ShardCount
  pub own : slice_get cs number ≡ Some count
  pub left : HasNotTakenAll plan number count

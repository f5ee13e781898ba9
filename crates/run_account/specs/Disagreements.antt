-- Why a run has no outcome: where its shards and its calls disagree. A reader should check that each reason is a fact of what was handed in. This profile's
-- own.
use Rattle.std.specs.Prelude.{◌≡◌, ℕ, ◌<◌, ◌≤◌, ◌%◌, List, [], ◌∷◌, length, map, Some, None, slice_get}
use Rattle.mg_model.specs.Plans.{Plan, restarts_of_all}
use Rattle.mg_model.specs.Script.{Script}
use Rattle.mg_model.specs.Shards.{restarts_in}
use Rattle.mg_model.specs.World.{World}
use Rattle.run_shards.specs.Shards.{IsWorldOf, ShardValue}
use Rattle.run_shards.specs.Disagreements.{last_count, last_number}
use Rattle.run_shards.specs.CallCount.{CallCount}
use Rattle.run_shards.specs.Line.{Line}
use Rattle.run_shards.specs.PlannedCall.{PlannedCall}
use Rattle.run_shards.specs.declared.shard_count.ShardCount.{ShardCount}
use Rattle.run_account.specs.CallReport.{AreCountedLines, number_standing}
use Rattle.run_account.specs.Comparing.{Differ, trails_of}
use Rattle.run_account.specs.Finishing.{HasUnfinished}
use Rattle.run_account.specs.OtherLines.{AreLeftOtherwise}
use Rattle.run_account.specs.TakenAll.{HasOneLeft, HasOtherEnds}

-- ---- a call

-- no lines are counted in a shard of the call of a plan with this number
pub data IsNotCounted (v : ShardValue) (c : ShardCount) (number : ℕ) : Type 0 where
  -- nothing is counted of it
  no_count : length c.counts.items ≤ number → IsNotCounted v c number
  -- the call that stands has a number past the last
  numbers_end : (own : CallCount) → slice_get c.counts.items number ≡ Some own → last_number < number_standing number own → IsNotCounted v c number
  -- no call of that number is open in the shard
  not_open : (own : CallCount) → slice_get c.counts.items number ≡ Some own
      → ((w : World) → IsWorldOf v w → w.agent (number_standing number own) ≡ None) → IsNotCounted v c number

-- nothing is told of the call of a plan with this number
pub data IsNotTold (script : Script) (plan : Plan) (shards : List ShardValue) (counts : List ShardCount) (planned_calls : List PlannedCall) (number : ℕ)
    : Type 0 where
  -- it is past the numbers of calls
  no_number : last_number < number → IsNotTold script plan shards counts planned_calls number
  -- there is no shard in which it stands, or nothing is counted of that
  no_shards : plan.shards ≡ 0 → IsNotTold script plan shards counts planned_calls number
  no_shard : length shards ≤ number % plan.shards → IsNotTold script plan shards counts planned_calls number
  no_counts : length counts ≤ number % plan.shards → IsNotTold script plan shards counts planned_calls number
  not_counted : (v : ShardValue) → (c : ShardCount) → slice_get shards (number % plan.shards) ≡ Some v → slice_get counts (number % plan.shards) ≡ Some c
      → IsNotCounted v c number → IsNotTold script plan shards counts planned_calls number
  -- its lines aren't as the run leaves it
  left_otherwise : (v : ShardValue) → (c : ShardCount) → slice_get shards (number % plan.shards) ≡ Some v → slice_get counts (number % plan.shards) ≡ Some c
      → (lines : List Line) → AreCountedLines script v c number lines → AreLeftOtherwise script plan.shards shards (trails_of planned_calls) number lines
      → IsNotTold script plan shards counts planned_calls number

-- of some call of the plan
abbrev pub HasNotTold : Script → Plan → List ShardValue → List ShardCount → List PlannedCall → Type 0
HasNotTold script plan shards counts planned_calls =
    (number : ℕ) × ((number < length plan.calls) × IsNotTold script plan shards counts planned_calls number)

-- ---- the run

-- how often the first shard was restarted, which is how often each has to be
abbrev pub restarts_of_first : List ShardValue → ℕ
restarts_of_first [] = 0
restarts_of_first (v ∷ more) = restarts_in v.history

-- the shards and the calls of a run disagree
pub data Disagreement (script : Script) (plan : Plan) (shards : List ShardValue) (counts : List ShardCount) (planned_calls : List PlannedCall) : Type 0 where
  -- there are more or fewer shards than the plan asks for
  other_count : (length shards ≡ plan.shards → ⊥) → Disagreement script plan shards counts planned_calls
  -- one was restarted more or less often than the first, or executed more than a plan may
  unfinished : HasUnfinished (restarts_of_first shards) shards → Disagreement script plan shards counts planned_calls
  -- the plan's restarts can't be counted
  restarts_uncounted : last_count < restarts_of_all plan.calls → Disagreement script plan shards counts planned_calls
  -- the steps that are counted in one aren't all of the plan's
  one_left : HasOneLeft plan counts → Disagreement script plan shards counts planned_calls
  -- an epoch ended in one shard after more or fewer restarts than in the first
  other_ends : HasOtherEnds counts → Disagreement script plan shards counts planned_calls
  -- the histories aren't what the calls went through
  differ : Differ plan.shards (map (λ (v : ShardValue). v.history) shards) (trails_of planned_calls) → Disagreement script plan shards counts planned_calls
  not_told : (number : ℕ) → number < length plan.calls → IsNotTold script plan shards counts planned_calls number
      → Disagreement script plan shards counts planned_calls

-- What is told of a call of the plan. A reader should check that its lines are those that its shard counts, with the call that stands as the shard shows it, that
-- each has its number, that each is as the run leaves it, and that each call within it to which something happened has its own. This profile's own.
use Rattle.std.specs.Prelude.{◌≡◌, ℕ, ◌≤◌, ◌%◌, List, length, map, Contains, Some, slice_get, slice_index_or, []}
use Rattle.mg_merge.specs.Identifiers.{executes_in, most_executes}
use Rattle.mg_model.specs.declared.events.Event.{Event}
use Rattle.mg_model.specs.Numbers.{plan_calls}
use Rattle.mg_model.specs.Plans.{Plan, number_begun}
use Rattle.mg_model.specs.Script.{Script}
use Rattle.mg_model.specs.World.{World}
use Rattle.run_shards.specs.Shards.{IsWorldOf, ShardValue}
use Rattle.run_shards.specs.Standings.{StandsAs}
use Rattle.run_shards.specs.Standing.{Standing}
use Rattle.run_shards.specs.ReportLines.{AreNumbered, line_of, lines_told, phase_standing}
use Rattle.run_shards.specs.CallCount.{CallCount}
use Rattle.run_shards.specs.Line.{Line}
use Rattle.run_shards.specs.Counting.{AreCounted}
use Rattle.run_shards.specs.declared.shard_count.ShardCount.{ShardCount}
use Rattle.run_account.specs.FinalState.{HaveLines, IsLeftAmong}
use Rattle.run_account.specs.TakenAll.{HaveTakenAll}

-- the number of the call that stands of a call of the plan, of which this is counted
abbrev pub number_standing : ℕ → CallCount → ℕ
number_standing number own = number_begun number (length own.gone.items)

-- the lines of the call of the plan with this number, by what its shard counts of it and, of the call that stands, by whatever world the shard shows
pub record AreCountedLines (script : Script) (v : ShardValue) (c : ShardCount) (number : ℕ) (lines : List Line) : Type 0 where
  pub own : CallCount
  pub is_own : slice_get c.counts.items number ≡ Some own
  pub standing : Standing
  pub stands : (w : World) → IsWorldOf v w → StandsAs w (number_standing number own) standing
  pub told : map (line_of script) lines ≡ lines_told script own standing.state (phase_standing script standing v.gateway.association)
  pub numbered : AreNumbered number lines

-- the lines of the call of a plan with this number
pub record IsTold (script : Script) (plan : Plan) (shards : List ShardValue) (counts : List ShardCount) (trails : List (List Event)) (number : ℕ)
    (lines : List Line) : Type 0 where
  pub shard : ShardValue
  pub own_shard : slice_get shards (number % plan.shards) ≡ Some shard
  pub count : ShardCount
  pub own_count : slice_get counts (number % plan.shards) ≡ Some count
  pub counted : AreCountedLines script shard count number lines
  pub left : (l : Line) → Contains lines l → IsLeftAmong script plan.shards shards trails l
  pub all : HaveLines (slice_index_or trails number []) lines

-- ---- the shards from which it is told

-- they are counted by the steps that were taken in them, which are all of the plan's, and none executed more than a plan may
pub record HavePlayed (script : Script) (plan : Plan) (shards : List ShardValue) (counts : List ShardCount) : Type 0 where
  pub few : length plan.calls ≤ plan_calls
  pub counted : AreCounted script plan.calls plan.shards 0 shards counts
  pub executes : (v : ShardValue) → Contains shards v → executes_in v.history ≤ most_executes
  pub taken : HaveTakenAll plan 0 counts

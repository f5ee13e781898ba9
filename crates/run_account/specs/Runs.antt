-- A run of a plan that ends well: what its outcome shows. A reader should check that one history is a run of the plan's calls, in which every world is good,
-- that it is the merge of what happened in the shards, that each shard went through the plan's steps of its calls, and that what happened to
-- each call of the plan stands in the history, each event once and in order. This profile's own.
use Rattle.std.specs.Prelude.{◌≡◌, ℕ, ◌+◌, ◌<◌, ◌≤◌, ◌%◌, ◌==◌, max, Bool, false, IsTrue, List, [], ◌++◌, length, slice_get, slice_index_or, Contains, Some, Result, Ok, Err}
use Rattle.std.specs.List.{filter}
use Rattle.mg_model.specs.declared.events.Event.{Event}
use Rattle.mg_model.specs.declared.events.Event.TheVariants.{OfCall, Restart}
use Rattle.mg_model.specs.Numbers.{plan_calls}
use Rattle.mg_model.specs.Plans.{Plan, PlanCall, epochs_of, restarts_of_all}
use Rattle.mg_model.specs.Script.{Script}
use Rattle.mg_model.specs.Shards.{Shard, IsShardRun, histories, merged, restarts_in}
use Rattle.mg_model.specs.World.{World, IsGood, IsOpening, Runs}
use Rattle.mg_reports.specs.Logs.{LogEntry, LogRuns}
use Rattle.run_account.specs.FinalState.{HaveLines, IsLeft}
use Rattle.run_shards.specs.Counting.{all_restarts_logged, ends_logged, epochs_logged, events_logged, steps_taken}
use Rattle.run_shards.specs.Parts.{ArePartsFrom, opened_calls}
use Rattle.run_shards.specs.ReportLines.{IsReportOf}
use Rattle.run_shards.specs.Line.{Line}
use Rattle.run_shards.specs.RunFault.{RunFault}
use Rattle.run_shards.specs.RunFault.TheVariants.{BadWorkers, TooManyCalls, Disagree, NoMemory}

-- ---- an outcome

pub record OutcomeValue : Type 0 where
  -- one history of all shards
  pub history : List Event
  -- what happened to each call of the plan, with all that began within it
  pub trails : List (List Event)
  -- the report
  pub lines : List Line

-- an event of a call of the plan with this number, or of one that began within it
abbrev pub is_within : ℕ → Event → Bool
is_within number (OfCall call happens) = call.0 % plan_calls == number
is_within number Restart = false

abbrev pub within : ℕ → List Event → List Event
within number history = filter (is_within number) history

-- ---- what its type keeps

-- each event of a call stands in one of the trails, in order
abbrev pub IsOutcome : (history : List Event) → (trails : List (List Event)) → Type 0
IsOutcome history trails = (number : ℕ) → within number history ≡ slice_index_or trails number []

-- ---- what a shard went through

-- a log of the shard's steps, of which its history is the events: from the opening each step that a call took happened as the event that it means in the world at
-- that moment, or no event which it means could happen there. All epochs of the plan ended but the last, each call took in each the plan's steps of it, in their
-- order, and the restarts beside the ends of epochs are as many as all calls of the plan ask for. At the end of each epoch calls had asked for so many
pub record IsPlayed (script : Script) (plan : Plan) (ends : List ℕ) (shard : Shard) : Type 0 where
  pub log : List LogEntry
  pub runs : LogRuns script log shard.start shard.end
  pub events : shard.history ≡ events_logged log
  -- where no call of the plan has an epoch, it has gone by as one
  pub epochs : epochs_logged log + 1 ≡ max 1 (epochs_of plan.calls)
  pub restarts : all_restarts_logged log ≡ restarts_of_all plan.calls
  pub ended : ends_logged 0 log ≡ ends
  pub taken : (first : ℕ) (call : PlanCall) → slice_get plan.calls first ≡ Some call → IsTrue (shard.numbers first)
      → (epoch : ℕ) → steps_taken first log epoch ≡ slice_index_or call.epochs epoch []

-- ---- a run

-- each shard is a run from an opening of its part of the calls, on its class of identifiers, and went through the plan's steps of them. Their merge is the
-- history: association by association, in each shard after shard, one restart between two, as many as the plan has. It is a run of the plan's calls, and so is
-- each beginning of it, and each leads to a good world. Its lines are the plan's report, each of them is as the history leaves its call, and each call of the
-- history has its line
pub record IsRunOf (script : Script) (plan : Plan) (v : OutcomeValue) : Type 0 where
  pub all_calls : length v.trails ≡ length plan.calls
  pub shards : List Shard
  pub all_shards : length shards ≡ plan.shards
  pub parts : ArePartsFrom plan plan.shards 0 shards
  pub restarts : ℕ
  -- the ends of the plan's epochs but the last, and the restarts that its calls ask for
  pub planned : restarts + 1 ≡ max 1 (epochs_of plan.calls) + restarts_of_all plan.calls
  pub each : (shard : Shard) → Contains shards shard → IsShardRun script shard × (restarts_in shard.history ≡ restarts)
  -- how many restarts calls had asked for at each end of an epoch: in all shards epochs end at the same restarts of the history
  pub ends : List ℕ
  pub played : (shard : Shard) → Contains shards shard → IsPlayed script plan ends shard
  pub merges : v.history ≡ merged (histories shards) restarts
  pub start : World
  pub end : World
  pub opens : IsOpening script (opened_calls 0 plan.calls) start
  pub runs : Runs script v.history start end
  pub report : IsReportOf script plan v.lines
  pub left : (line : Line) → Contains v.lines line → IsLeft script v.history end line
  pub all_lines : HaveLines v.history v.lines
  pub good : (before later : List Event) (w : World) → v.history ≡ before ++ later → Runs script before start w → IsGood script w

-- ---- the answer

abbrev pub most_workers : ℕ
most_workers = 64

abbrev pub AreWorkers : ℕ → Type 0
AreWorkers workers = (1 ≤ workers) × (workers ≤ most_workers)

abbrev pub HasRun : Script → Plan → (workers : ℕ) → Result OutcomeValue RunFault → Type 0
HasRun script plan workers (Ok v) = AreWorkers workers × (length plan.calls ≤ plan_calls) × IsRunOf script plan v
HasRun script plan workers (Err BadWorkers) = AreWorkers workers → ⊥
HasRun script plan workers (Err TooManyCalls) = AreWorkers workers × (plan_calls < length plan.calls)
HasRun script plan workers (Err Disagree) = AreWorkers workers × (length plan.calls ≤ plan_calls)
HasRun script plan workers (Err NoMemory) = AreWorkers workers × (length plan.calls ≤ plan_calls)

-- Why a step of a call of the plan isn't taken. A reader should check that each reason is a fact of what was handed in. This profile's own.
use Rattle.std.specs.Prelude.{◌≡◌, ℕ, ◌+◌, ◌<◌, ◌⊎◌, Some, None}
use Rattle.mg_names.specs.declared.identifiers.CallNo.{CallNo}
use Rattle.mg_model.specs.declared.events.Event.{Event}
use Rattle.mg_model.specs.declared.events.Event.TheVariants.{OfCall, Restart}
use Rattle.mg_model.specs.declared.plans.PlanStep.{PlanStep}
use Rattle.mg_model.specs.Numbers.{plan_calls}
use Rattle.mg_model.specs.World.{World}
use Rattle.agent.specs.declared.refusal.Refusal.{Refusal}
use Rattle.agent.specs.declared.refusal.Refusal.TheVariants as refusal
use Rattle.shards.specs.CanOccur.{CouldOccur, record_call}
use Rattle.shards.specs.CouldHappen.{CouldHappen}
use Rattle.shards.specs.Meaning.{IsMeant}
use Rattle.shards.specs.Shards.{IsShard, IsUnchanged, IsWorldOf, ShardValue}
use Rattle.shards.specs.CallTable.{record_in}
use Rattle.shards.specs.Stepping.{IsBehind, IsNotEnabled}
use Rattle.planned_calls.specs.declared.fault.RunFault.{RunFault}
use Rattle.planned_calls.specs.declared.fault.RunFault.TheVariants.{BadWorkers, TooManyCalls, Disagree, NoMemory}
use Rattle.planned_calls.specs.declared.planned_call.PlannedCall.{PlannedCall}

-- the greatest count
abbrev pub last_count : ℕ
last_count = 18446744073709551615

-- the greatest number of a call
abbrev pub last_number : ℕ
last_number = 4294967295

-- a fault for want of memory, or because of this
abbrev pub IsBecause : Type 0 → RunFault → Type 0
IsBecause why Disagree = why
IsBecause why NoMemory = Unit {0}
IsBecause why BadWorkers = ⊥
IsBecause why TooManyCalls = ⊥

-- ---- a step

-- an event could happen in a shard, or its call isn't open there; a restart is no call's
abbrev pub MayOccur : ShardValue → Event → Type 0
MayOccur v (OfCall call happens) = (record_in v.call_table (record_call call.0 happens) ≡ None) ⊎ CouldOccur v call.0 happens
MayOccur v Restart = Unit {0}

-- the step isn't idle, by what its event was refused for: it could happen in the shard, or the shard counts another number of events
abbrev pub IsUntaken : ShardValue → Event → Refusal → Type 0
IsUntaken v event refusal.NotEnabled = MayOccur v event
IsUntaken v event (refusal.Behind slot_count) = Unit {0}
IsUntaken v event refusal.NoMemory = ⊥

-- the event that the step means, in the shard once it was asked for it
pub record MeansEvent (v : ShardValue) (a : PlannedCall) (step : PlanStep) : Type 0 where
  pub event : Event
  pub begins : CallNo
  pub number : begins.0 ≡ a.standing.0 + plan_calls
  pub means : IsMeant v a.standing.0 begins.0 step (Some event)
  pub same : ShardValue
  pub unchanged : IsUnchanged v same
  pub kept : IsShard same

-- it could happen, and the shard counts another number of events of the call than its transcript has; the shard counts the events that its history has
pub record CountsOtherwise (v : ShardValue) (a : PlannedCall) (step : PlanStep) : Type 0 where
  pub meant : MeansEvent v a step
  pub slot_count : ℕ
  pub behind : IsBehind meant.same a.next slot_count
  pub could : CouldHappen meant.same a.next meant.event

-- it is refused to the call that is handed in, and could happen in the shard, which stays as it is
pub record GoesOtherwise (v : ShardValue) (a : PlannedCall) (step : PlanStep) : Type 0 where
  pub meant : MeansEvent v a step
  pub refused : IsNotEnabled meant.same a.next meant.event
  pub left : ShardValue
  pub stays : IsUnchanged meant.same left
  pub may : MayOccur left meant.event

pub data IsNotTaken (v : ShardValue) (a : PlannedCall) (step : PlanStep) : Type 0 where
  -- there is no number for the next call to begin
  numbers_end : last_number < a.standing.0 + plan_calls → IsNotTaken v a step
  -- the call that stands isn't open in the shard
  not_open : ((w : World) → IsWorldOf v w → w.agent a.standing.0 ≡ None) → IsNotTaken v a step
  counts_otherwise : CountsOtherwise v a step → IsNotTaken v a step
  goes_otherwise : GoesOtherwise v a step → IsNotTaken v a step

-- A step of a call of the plan in its shard. A reader should check that what a step came to is said of whatever world the shard shows, by the entry of a log
-- that it makes there, and that it is idle only where its event occurs in no world that is shown. This profile's own.
use Rattle.std.specs.Prelude.{◌≡◌, ℕ, ◌+◌, ◌%◌, Bool, false, if◌then◌else◌, List, [], ◌∷◌, ◌++◌, Option, Some, None, Result, Ok, Err}
use Rattle.mg_names.specs.declared.identifiers.CallNo.{CallNo}
use Rattle.mg_model.specs.declared.events.Event.{Event}
use Rattle.mg_model.specs.declared.plans.PlanStep.{PlanStep}
use Rattle.mg_model.specs.Numbers.{plan_calls}
use Rattle.mg_model.specs.World.{World}
use Rattle.mg_reports.specs.Logs.{StepTaken}
use Rattle.agent.specs.Calls.{value_of}
use Rattle.agent.specs.declared.refusal.Refusal.{Refusal}
use Rattle.agent.specs.declared.refusal.Refusal.TheVariants.{NotEnabled}
use Rattle.shards.specs.CanOccur.{NeverOccurs}
use Rattle.shards.specs.Shards.{HasSameOpening, IsWorldOf, ShardValue}
use Rattle.shards.specs.Stepping.{is_beginning}
use Rattle.shards.specs.declared.stepped.Stepped.{Stepped}
use Rattle.shards.specs.declared.stepped.Stepped.TheVariants.{Done, Begun}
use Rattle.planned_calls.specs.Disagreements.{IsBecause, IsUntaken}
use Rattle.planned_calls.specs.declared.fault.RunFault.{RunFault}
use Rattle.planned_calls.specs.declared.planned_call.PlannedCall.{PlannedCall}
use Rattle.planned_calls.specs.declared.planned_call.TakenStep.{TakenStep}

-- the number in the plan of a call, within which the one began that stands
abbrev pub first_of : PlannedCall → ℕ
first_of planned = planned.standing.0 % plan_calls

-- what a step leaves in a history
abbrev pub happened : Option Event → List Event
happened None = []
happened (Some event) = event ∷ []

-- a step of a call of the plan came to this: in whatever world the shard showed it makes this entry of a log, and leads to one that the shard shows
pub record IsTaken (old new : ShardValue) (first : ℕ) (step : PlanStep) (told : TakenStep) : Type 0 where
  pub of_first : told.first ≡ first
  pub same : HasSameOpening old new
  pub history : new.history ≡ old.history ++ happened told.event
  pub worlds : (w : World) → IsWorldOf old w → (after : World) × (StepTaken old.script w first step told.state told.event after × IsWorldOf new after)

-- ---- what is written down

-- what happened to a call of the plan, with all that began within it
abbrev pub trail_of : PlannedCall → List Event
trail_of planned = planned.log.trail.items ++ (value_of planned.next).transcript

-- another call begins by it
abbrev pub begins_another : Option Event → Bool
begins_another None = false
begins_another (Some event) = is_beginning event

-- what happened is the last of the trail, and where another call began, that one stands, with the next number
pub record IsWritten (a : PlannedCall) (event : Option Event) (b : PlannedCall) : Type 0 where
  pub trail : trail_of b ≡ trail_of a ++ happened event
  pub standing : b.standing.0 ≡ (if begins_another event then a.standing.0 + plan_calls else a.standing.0)

-- what is left of the call that stood, where another began
abbrev pub left_of : Result Stepped Refusal → List Event
left_of (Ok Done) = []
left_of (Ok (Begun retired)) = retired.transcript.items
left_of (Err why) = []

-- the call that stands behind it
abbrev pub stands_behind : CallNo → (begins : CallNo) → Result Stepped Refusal → CallNo
stands_behind standing begins (Ok Done) = standing
stands_behind standing begins (Ok (Begun retired)) = begins
stands_behind standing begins (Err why) = standing

-- ---- what it comes to

-- what is told of an event that the shard was told, and that came to this
abbrev pub SettlesAs : ShardValue → Event → Result Stepped Refusal → Result (Option Event) RunFault → Type 0
SettlesAs v event (Ok stepped) (Ok told) = told ≡ Some event
SettlesAs v event (Err why) (Ok told) = (told ≡ None) × ((why ≡ NotEnabled) × NeverOccurs v event)
SettlesAs v event (Ok Done) (Err fault) = ⊥
SettlesAs v event (Ok (Begun retired)) (Err fault) = IsBecause ⊥ fault
SettlesAs v event (Err why) (Err fault) = IsBecause (IsUntaken v event why) fault

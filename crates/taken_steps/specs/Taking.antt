-- A step of a plan that a call takes on a gateway: what it came to. A reader should check that an event that is told is what the step means, and happened to the
-- call and to its gateway; and that an idle step means no event, or one that can't happen in the gateway, for the reason that is told. This profile's own.
use Rattle.std.specs.Prelude.{◌≡◌, ℕ, ◌+◌, None, Some}
use Rattle.mg_names.specs.declared.identifiers.CallNo.{CallNo}
use Rattle.mg_model.specs.declared.events.CallEvent.{CallEvent}
use Rattle.mg_model.specs.declared.events.Event.{Event}
use Rattle.mg_model.specs.declared.events.Event.TheVariants.{OfCall, Restart}
use Rattle.mg_model.specs.declared.plans.PlanStep.{PlanStep}
use Rattle.mg_model.specs.declared.plans.PlanStep.TheVariants.{Restarts}
use Rattle.mg_model.specs.Numbers.{plan_calls}
use Rattle.agent.specs.declared.call.Next.{Next}
use Rattle.planned_calls.specs.Meaning.{IsMeant}
use Rattle.planned_calls.specs.Shards.{HasHappened, IsUnchanged, ShardValue}
use Rattle.planned_calls.specs.Stepping.{IsSameNext, IsTakenStep}
use Rattle.planned_calls.specs.Stepped.{Stepped}
use Rattle.planned_calls.specs.Stepped.TheVariants.{Done, Begun}
use Rattle.taken_steps.specs.Reasons.{IsRefusedFor, IsUnmeant}
use Rattle.taken_steps.specs.declared.came.Came.{Came}
use Rattle.taken_steps.specs.declared.came.Came.TheVariants as came
use Rattle.taken_steps.specs.declared.idle.Idle.{Idle}

-- ---- a step whose event happened

-- the number of the call that stands then: of one that began, or else the same
abbrev pub IsNow : Stepped → (number begins now : ℕ) → Type 0
IsNow Done number begins now = now ≡ number
IsNow (Begun retired) number begins now = now ≡ begins

-- the gateway `v` with its call `a` went to `w` with `b`; what the step means was looked up first, by which nothing changed
pub record Happens (v : ShardValue) (a : Next) (number : ℕ) (step : PlanStep) (event : Event) (w : ShardValue) (b : Next) (now : ℕ) : Type 0 where
  pub begins : CallNo
  pub next_number : begins.0 ≡ number + plan_calls
  pub means : IsMeant v number begins.0 step (Some event)
  pub same : ShardValue
  pub unchanged : IsUnchanged v same
  pub stepped : Stepped
  pub taken : IsTakenStep same w a b event stepped
  pub is_now : IsNow stepped number begins.0 now

-- ---- an idle step

pub data IsIdle (v : ShardValue) (a : Next) (number : ℕ) (step : PlanStep) (why : Idle) (w : ShardValue) (b : Next) : Type 0 where
  means_nothing : (begins : CallNo) → begins.0 ≡ number + plan_calls → IsMeant v number begins.0 step None → IsUnmeant step why
      → IsUnchanged v w → b ≡ a → IsIdle v a number step why w b
  is_refused : (begins : CallNo) → begins.0 ≡ number + plan_calls → (call : CallNo) → (happens : CallEvent) → IsMeant v number begins.0 step (Some (OfCall call happens))
      → (same : ShardValue) → IsUnchanged v same → IsRefusedFor same a call.0 happens why → IsUnchanged same w → IsSameNext a b
      → IsIdle v a number step why w b

-- ---- any step

-- a restart happens to the gateway alone
pub record IsRestart (v : ShardValue) (a : Next) (number : ℕ) (step : PlanStep) (w : ShardValue) (b : Next) (now : ℕ) : Type 0 where
  pub is : step ≡ Restarts
  pub happened : HasHappened v w Restart
  pub call : b ≡ a
  pub same_number : now ≡ number

abbrev pub Comes : ShardValue → Next → (number : ℕ) → PlanStep → Came → ShardValue → Next → (now : ℕ) → Type 0
Comes v a number step (came.Happened event) w b now = Happens v a number step event w b now
Comes v a number step (came.Idle why) w b now = IsIdle v a number step why w b × (now ≡ number)
Comes v a number step came.Restarted w b now = IsRestart v a number step w b now
Comes v a number step came.EpochEnded w b now = IsRestart v a number step w b now
Comes v a number step came.OtherRestarted w b now = IsRestart v a number step w b now

-- What is told of a call of a plan, step after step. A reader should check that what is told of a step is what it came to where those before it led, and that
-- nothing but a restart of another call is told between two steps of the plan. This profile's own.
use Rattle.std.specs.Prelude.{◌≡◌, ℕ, zero, suc, List, [], ◌∷◌, ◌++◌}
use Rattle.mg_model.specs.declared.events.Event.{Event}
use Rattle.mg_model.specs.declared.plans.PlanStep.{PlanStep}
use Rattle.mg_model.specs.declared.plans.PlanStep.TheVariants.{Restarts}
use Rattle.mg_model.specs.Script.{Script}
use Rattle.mg_model.specs.World.{Opened}
use Rattle.agent.specs.declared.call.Next.{Next}
use Rattle.taken_steps.specs.Opening.{IsEntered, IsNewShard}
use Rattle.taken_steps.specs.Shards.{ShardValue, opened_as}
use Rattle.taken_steps.specs.OpenedCall.{OpenedCall}
use Rattle.taken_steps.specs.Positions.{IsPlaced}
use Rattle.taken_steps.specs.Taking.{Comes}
use Rattle.taken_steps.specs.declared.came.Came.{Came}
use Rattle.taken_steps.specs.declared.came.Came.TheVariants as came
use Rattle.taken_steps.specs.declared.position.Position.{Position}
use Rattle.run_steps.specs.declared.telling.Telling.{Telling}
use Rattle.run_steps.specs.declared.told_step.ToldStep.{ToldStep}

-- ---- the steps of the plan

-- the call's own, or the end of an epoch; a restart that another call asked for is none
abbrev pub own_step : PlanStep → Came → List PlanStep
own_step step came.OtherRestarted = []
own_step step came = step ∷ []

abbrev pub own_steps : List ToldStep → List PlanStep
own_steps [] = []
own_steps (t ∷ more) = own_step t.step t.came ++ own_steps more

-- before an epoch the one before it ends
abbrev pub ending : (epoch : ℕ) → List PlanStep
ending zero = []
ending (suc epoch) = Restarts ∷ []

-- ---- what they came to

-- a restart, for whatever reason
abbrev pub IsOfRestart : Came → Type 0
IsOfRestart (came.Happened event) = ⊥
IsOfRestart (came.Idle why) = ⊥
IsOfRestart came = Unit {0}

-- where the gateway `v` has the call `a` with this number, this is told of the step to `w`
pub record IsToldStep (t : ToldStep) (v : ShardValue) (a : Next) (number : ℕ) (w : ShardValue) (b : Next) (now : ℕ) : Type 0 where
  pub comes : Comes v a number t.step t.came w b now
  pub call : t.call.0 ≡ now
  pub before : IsPlaced v a t.before
  pub after : IsPlaced w b t.after

-- one step more is told, of the call that stands: it came to this, and before it the call was here
pub record IsToldLast (s : PlanStep) (c : Came) (p : Position) (old new : Telling) : Type 0 where
  pub told : ToldStep
  pub steps : new.steps.items ≡ old.steps.items ++ told ∷ []
  pub step : told.step ≡ s
  pub came : told.came ≡ c
  pub call : told.call ≡ old.number
  pub before : told.before ≡ p
  pub after : IsPlaced old.shard old.next told.after
  pub shard : new.shard ≡ old.shard
  pub next : new.next ≡ old.next
  pub number : new.number ≡ old.number

-- and of several, one after the other
unfoldable pub Goes : List ToldStep → ShardValue → Next → (number : ℕ) → ShardValue → Next → (now : ℕ) → Type 0
Goes [] v a number w b now = (w ≡ v) × (b ≡ a) × (now ≡ number)
Goes (t ∷ more) v a number w b now =
    (u : ShardValue) × ((c : Next) × ((k : ℕ) × (IsToldStep t v a number u c k × Goes more u c k w b now)))

-- whatever was told before, these steps of the plan were told behind it
pub record TellsOn (own : List PlanStep) (before after : Telling) : Type 0 where
  pub steps : own_steps after.steps.items ≡ own_steps before.steps.items ++ own
  pub goes : (v : ShardValue) (a : Next) (number : ℕ) → Goes before.steps.items v a number before.shard before.next before.number.0
      → Goes after.steps.items v a number after.shard after.next after.number.0

-- ---- a call of the plan

-- it has just opened on a gateway of its own, and nothing is told of it
pub record IsFirst (script : Script) (call : Opened) (t : Telling) : Type 0 where
  pub one : OpenedCall
  pub is_one : opened_as one ≡ call
  pub new : IsNewShard script (one ∷ []) 0 1 t.shard
  pub entered : IsEntered script one t.next
  pub number : t.number.0 ≡ call.call
  pub none : t.steps.items ≡ []

-- it is told from such an opening on, and its gateway ends with this history
pub record IsGone (script : Script) (call : Opened) (told : List ToldStep) (history : List Event) : Type 0 where
  pub one : OpenedCall
  pub is_one : opened_as one ≡ call
  pub opened : ShardValue
  pub first : Next
  pub new : IsNewShard script (one ∷ []) 0 1 opened
  pub entered : IsEntered script one first
  pub shard : ShardValue
  pub last : Next
  pub now : ℕ
  pub goes : Goes told opened first call.call shard last now
  pub history_is : shard.history ≡ history

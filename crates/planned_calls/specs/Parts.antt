-- The calls of a plan, and in which shard each stands: that whose number is what the call's number in the plan leaves where it is divided by the number of
-- shards, for good, with all that begin within it. A reader should check that each call of the plan is in one shard. This profile's own.
use Rattle.std.specs.Prelude.{◌≡◌, ℕ, ◌+◌, ◌%◌, ◌==◌, Bool, if◌then◌else◌, List, [], ◌∷◌}
use Rattle.std.specs.List.{filter}
use Rattle.identifiers.specs.Class.{is_of_class}
use Rattle.mg_model.specs.declared.events.Event.{Event}
use Rattle.mg_model.specs.Numbers.{plan_calls}
use Rattle.mg_model.specs.Plans.{Plan, PlanCall, opened_as}
use Rattle.mg_model.specs.Shards.{Shard}
use Rattle.mg_model.specs.World.{Opened, is_of_call}

-- ---- calls

-- these calls of a plan, of which the first has this number
unfoldable pub opened_calls : (number : ℕ) → List PlanCall → List Opened
opened_calls number [] = []
opened_calls number (call ∷ more) = opened_as number call ∷ opened_calls (number + 1) more

-- those of them that stand in a shard, of so many shards
unfoldable pub opened_in : (count shard number : ℕ) → List PlanCall → List Opened
opened_in count shard number [] = []
opened_in count shard number (call ∷ more) =
    if number % count == shard then opened_as number call ∷ opened_in count shard (number + 1) more else opened_in count shard (number + 1) more

-- the call with a number, where it stands in the shard
abbrev pub one_in : (count shard number : ℕ) → PlanCall → List Opened
one_in count shard number call = if number % count == shard then opened_as number call ∷ [] else []

-- the numbers that calls of a shard may have: those that begin within a call of the plan have its number and a multiple of the most calls of a plan
abbrev pub numbers_in : (count shard number : ℕ) → Bool
numbers_in count shard number = (number % plan_calls) % count == shard

-- ---- shards

-- a shard of a plan, as the model has it
pub record IsPart (plan : Plan) (count number : ℕ) (shard : Shard) : Type 0 where
  pub calls : shard.calls ≡ opened_in count number 0 plan.calls
  pub numbers : shard.numbers ≡ numbers_in count number
  pub class : shard.start.gateway.board.class ≡ is_of_class number count

-- all of them from this number on
abbrev pub ArePartsFrom : Plan → (count number : ℕ) → List Shard → Type 0
ArePartsFrom plan count number [] = Unit {0}
ArePartsFrom plan count number (shard ∷ more) = IsPart plan count number shard × ArePartsFrom plan count (number + 1) more

-- ---- histories

-- the events of a call, in their order
abbrev pub of_call : ℕ → List Event → List Event
of_call call history = filter (is_of_call call) history

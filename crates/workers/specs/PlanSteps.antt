-- Where a call is at the beginning of an epoch, and whether it is over. A reader should check that it is over only where the plan has no step of it left in the
-- epoch. This profile's own.
use Rattle.std.specs.Prelude.{◌≡◌, ℕ, ◌+◌, ◌<◌, Bool, true, List, Option, Some, None, is_none, slice_get, slice_index_or}
use Rattle.handover.specs.declared.hand.NumberedItem.{NumberedItem}
use Rattle.mg_model.specs.Plans.{PlanCall, epochs_of}
use Rattle.run_shards.specs.PlanSteps.{step_at}
use Rattle.workers.specs.PlannedCall.{PlannedCall}

-- at the first step of an epoch
abbrev pub at_first_step : PlannedCall → PlannedCall
at_first_step planned = record planned { log = record planned.log { place = 0 } }

-- as many steps further in its epoch, where they can be counted
abbrev pub IsFurther : (steps : ℕ) → (old new : PlannedCall) → Type 0
IsFurther steps old new = old.log.place + steps < 18446744073709551616 → new.log.place ≡ old.log.place + steps

-- the call with this number has no step of an epoch left
abbrev pub is_over : List PlanCall → (number epoch : ℕ) → PlannedCall → Bool
is_over calls number epoch planned = is_none (step_at calls number epoch planned.log.place)

abbrev pub item_is_over : List PlanCall → (epoch : ℕ) → NumberedItem PlannedCall → Bool
item_is_over calls epoch item = is_over calls item.number epoch item.load

-- nor has any that is at its place
abbrev pub AreOver : List PlanCall → (epoch : ℕ) → List (Option PlannedCall) → Type 0
AreOver calls epoch places =
    (number : ℕ) (planned : PlannedCall) → slice_index_or places number None ≡ Some planned → is_over calls number epoch planned ≡ true

-- the calls of a plan, in its order, have no step of its last epoch left
abbrev pub HaveEnded : List PlanCall → List PlannedCall → Type 0
HaveEnded calls planned_calls = (epoch : ℕ) → epoch + 1 ≡ epochs_of calls
    → (number : ℕ) (planned : PlannedCall) → slice_get planned_calls number ≡ Some planned → is_over calls number epoch planned ≡ true

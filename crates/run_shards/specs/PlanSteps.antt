-- Which step of a plan comes next. A reader should check that nothing comes next only where the epoch has no more steps of the call. This profile's own.
use Rattle.std.specs.Prelude.{ℕ, List, Option, Some, None, slice_get}
use Rattle.mg_model.specs.declared.plans.PlanStep.{PlanStep}
use Rattle.mg_model.specs.Plans.{PlanCall}

abbrev pub step_in_epoch : Option (List PlanStep) → ℕ → Option PlanStep
step_in_epoch None place = None
step_in_epoch (Some steps) place = slice_get steps place

abbrev pub step_of_call : Option PlanCall → (epoch place : ℕ) → Option PlanStep
step_of_call None epoch place = None
step_of_call (Some call) epoch place = step_in_epoch (slice_get call.epochs epoch) place

-- the step at a place, from 0, of an epoch of the call with this number
abbrev pub step_at : List PlanCall → (call epoch place : ℕ) → Option PlanStep
step_at calls call epoch place = step_of_call (slice_get calls call) epoch place

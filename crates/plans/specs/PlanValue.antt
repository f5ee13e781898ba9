-- What a plan shows, and its limits. A reader should check them: 1,000 steps in a call over all its epochs, and 16 epochs.
use Rattle.std.specs.Prelude.{ℕ, ◌+◌, List, [], ◌∷◌, length, Bool, ◌||◌, nat_lt}
use Rattle.std.specs.List.{list_any}
use Rattle.mg_model.specs.declared.plans.PlanStep.{PlanStep}
use Rattle.mg_model.specs.Plans.{PlanCall, Plan}

-- how many steps there are in all epochs
abbrev pub steps_of : List (List PlanStep) → ℕ
steps_of [] = 0
steps_of (steps ∷ more) = length steps + steps_of more

abbrev pub is_too_long : PlanCall → Bool
is_too_long call = nat_lt 16 (length call.epochs) || nat_lt 1000 (steps_of call.epochs)

abbrev pub is_too_large : Plan → Bool
is_too_large plan = list_any (λ call. is_too_long call) plan.calls

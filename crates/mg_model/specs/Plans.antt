-- A plan: the calls that are run, on which lines, and the steps of each, epoch by epoch. A reader should check that all calls end an epoch before one
-- restart, so that each call has a restart between two of the plan's epochs, also where it has no steps in them. This profile's own.
use Rattle.std.specs.Prelude.{ℕ, zero, suc, ◌+◌, ◌-◌, ◌*◌, max, List, [], ◌∷◌, ◌++◌, length, slice_index_or}
use Rattle.mg_model.specs.declared.plans.PlanStep.{PlanStep}
use Rattle.mg_model.specs.declared.plans.PlanStep.TheVariants.{Restarts}
use Rattle.mg_model.specs.Numbers.{plan_calls}
use Rattle.mg_model.specs.World.{Opened}

pub record PlanCall : Type 0 where
  -- the line of the gateway for each line of the script
  pub lines : List ℕ
  pub epochs : List (List PlanStep)

pub record Plan : Type 0 where
  pub calls : List PlanCall
  pub shards : ℕ

-- ---- epochs and restarts

-- a plan has as many epochs as its longest call
abbrev pub epochs_of : List PlanCall → ℕ
epochs_of [] = 0
epochs_of (call ∷ more) = max (length call.epochs) (epochs_of more)

abbrev pub steps_first : List (List PlanStep) → List PlanStep
steps_first [] = []
steps_first (steps ∷ more) = steps

abbrev pub steps_later : List (List PlanStep) → List (List PlanStep)
steps_later [] = []
steps_later (steps ∷ more) = more

-- the steps of a call in as many epochs, with a restart at the end of each but the last
abbrev pub steps_in : (epochs : ℕ) → List (List PlanStep) → List PlanStep
steps_in zero steps = []
steps_in (suc zero) steps = steps_first steps
steps_in (suc (suc more)) steps = steps_first steps ++ Restarts ∷ steps_in (suc more) (steps_later steps)

abbrev pub restarts_among : List PlanStep → ℕ
restarts_among [] = 0
restarts_among (Restarts ∷ more) = suc (restarts_among more)
restarts_among (step ∷ more) = restarts_among more

-- the `restart` steps of a call
abbrev pub restarts_asked : List (List PlanStep) → ℕ
restarts_asked [] = 0
restarts_asked (steps ∷ more) = restarts_among steps + restarts_asked more

abbrev pub restarts_of_all : List PlanCall → ℕ
restarts_of_all [] = 0
restarts_of_all (call ∷ more) = restarts_asked call.epochs + restarts_of_all more

-- the `restart` steps of the plan's other calls
abbrev pub restarts_of_others : Plan → PlanCall → ℕ
restarts_of_others plan call = restarts_of_all plan.calls - restarts_asked call.epochs

-- ---- calls

-- the call with a number in the plan, and its lines
abbrev pub opened_as : ℕ → PlanCall → Opened
opened_as number call = record { call = number; lines = λ i. slice_index_or call.lines i 0 }

-- the number of the call that begins as this one, from 1, within a call of the plan
abbrev pub number_begun : (call begun : ℕ) → ℕ
number_begun call begun = plan_calls * begun + call

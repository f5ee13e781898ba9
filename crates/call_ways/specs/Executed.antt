-- That what becomes of commands goes with the steps of the check. A reader should check that nothing is asked but a request that is sent and creates no name
-- that is bound: where a command of it is refused no step executes the request, and where none is one does.
use Rattle.std.specs.Prelude.{◌≡◌, ℕ, IsTrue, Some, slice_get, Contains}
use Rattle.mg_names.specs.declared.phases.LinkPhase.TheVariants.{Sent}
use Rattle.mg_model.specs.declared.steps.StepName.TheVariants as step
use Rattle.mg_model.specs.Script.{Script}
use Rattle.mg_model.specs.Configuration.{Configuration}
use Rattle.mg_model.specs.Steps.{names_unbound, steps_of}
use Rattle.call_ways.specs.declared.fates.Fate.TheVariants as fate
use Rattle.call_ways.specs.Fates.{fates_in}

-- some command of the state is refused
abbrev pub IsOneRefused : Script → Configuration → Type 0
IsOneRefused script c = (place : ℕ) × (slice_get (fates_in script c) place ≡ Some fate.Refused)

-- a step executes the request
abbrev pub CanBeExecuted : Script → Configuration → Type 0
CanBeExecuted script c = (d : Configuration) × Contains (steps_of script c) (step.Execute, d)

pub record GoesWithSteps (script : Script) (c : Configuration) : Type 0 where
  pub refused : IsOneRefused script c → CanBeExecuted script c → ⊥
  pub executed : (IsOneRefused script c → ⊥) → CanBeExecuted script c

abbrev pub FatesGoWithSteps : Type 0
FatesGoWithSteps = (script : Script) (c : Configuration) → c.link ≡ Sent → IsTrue (names_unbound script c) → GoesWithSteps script c

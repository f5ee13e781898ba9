-- The first of some steps whose result is in no entry.
use Rattle.std.specs.Prelude.{◌≡◌, ℕ, ◌<◌, List, Some, slice_get}
use Rattle.mg_model.specs.Entries.{Entry, IsCovered}
use Rattle.mg_model.specs.Steps.{Step}

-- the step is one of these, its result is in no entry, and those of the steps before it are
pub record IsFirstUncovered (entries : List Entry) (steps : List Step) (step : Step) : Type 0 where
  pub place : ℕ
  pub at_place : slice_get steps place ≡ Some step
  pub uncovered : IsCovered entries step.1 → ⊥
  pub before : (s : ℕ) → s < place → (earlier : Step) → slice_get steps s ≡ Some earlier → IsCovered entries earlier.1

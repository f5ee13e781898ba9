-- What all shards of a run have in common, whatever happened in them.
use Rattle.std.specs.Prelude.{◌≡◌, ℕ, ◌+◌, List, [], ◌∷◌, map}
use Rattle.mg_model.specs.Plans.{PlanCall}
use Rattle.mg_model.specs.Script.{Script}
use Rattle.shards.specs.Shards.{ShardValue, opened_as}
use Rattle.planned_calls.specs.Parts.{opened_in}

-- it is of this script, one of so many shards, with this number, and was opened with its part of the calls
pub record IsOfRun (script : Script) (calls : List PlanCall) (count number : ℕ) (v : ShardValue) : Type 0 where
  pub of_script : v.script ≡ script
  pub of_count : v.stride ≡ count
  pub of_number : v.first ≡ number
  pub of_calls : map opened_as v.calls ≡ opened_in count number 0 calls

-- shards with numbers from this one on
abbrev pub AreOfRun : Script → List PlanCall → (count number : ℕ) → List ShardValue → Type 0
AreOfRun script calls count number [] = Unit {0}
AreOfRun script calls count number (v ∷ more) = IsOfRun script calls count number v × AreOfRun script calls count (number + 1) more

-- What is found of a run of entries: of those from a place up to another, in file order, where the certificate has them.
use Rattle.std.specs.Prelude.{◌≡◌, ℕ, ◌+◌, ◌*◌, ◌^◌, ◌<◌, ◌≤◌, List, Some, drop, slice_get}
use Rattle.mg_model.specs.declared.faults.Fault.{Fault}
use Rattle.mg_model.specs.Script.{Script}
use Rattle.mg_model.specs.Entries.{Entry, HavePoints}
use Rattle.closure.specs.declared.broken.Broken.{Broken}
use Rattle.closure.specs.declared.first_fault.Finding.{Finding}
use Rattle.closure.specs.declared.first_fault.Finding.TheVariants as finding
use Rattle.closure.specs.Findings.{IsEntryKept, IsFirstPoint, fault_at}

-- each obligation of each point of each entry of the run holds
abbrev pub RunIsKept : Script → List Entry → ℕ → ℕ → Type 0
RunIsKept script entries first last =
    (place : ℕ) → place < last → first ≤ place → (entry : Entry) → slice_get entries place ≡ Some entry → IsEntryKept script entries entry

-- from the run on there are so many points more than after it
abbrev pub RunHasPoints : List Entry → ℕ → ℕ → ℕ → Type 0
RunHasPoints entries first last points =
    (rest : ℕ) → HavePoints (drop last entries) rest → HavePoints (drop first entries) (points + rest)

-- the fault is that of the first obligation of a point of the run that is broken
pub record IsFirstInRun (script : Script) (entries : List Entry) (first last : ℕ) (fault : Fault) : Type 0 where
  pub place : ℕ
  pub from : first ≤ place
  pub below : place < last
  pub entry : Entry
  pub at_place : slice_get entries place ≡ Some entry
  pub number : ℕ
  pub broken : Broken
  pub first_point : IsFirstPoint script entries entry number broken
  pub before : RunIsKept script entries first place
  pub named : fault ≡ fault_at place number broken

-- every point of the run is kept, and so many are there, fewer for each entry than 32 bits count; or this is the fault of the first that is
-- broken
abbrev pub IsOfRun : Script → List Entry → ℕ → ℕ → Finding → Type 0
IsOfRun script entries first last (finding.Kept points) =
    RunIsKept script entries first last
    × (first ≤ last → RunHasPoints entries first last points × (points + first * 2 ^ 32 ≤ last * 2 ^ 32))
IsOfRun script entries first last (finding.Broken fault) = IsFirstInRun script entries first last fault

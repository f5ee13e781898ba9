-- What is found at one configuration, at one entry and at the entries together. No public clause speaks of these words.
use Rattle.std.specs.Prelude.{◌≡◌, ℕ, ◌<◌, List, Option, Some, None, slice_get}
use Rattle.mg_names.specs.declared.obligations.Obligation.{Obligation}
use Rattle.mg_names.specs.declared.obligations.Obligation.TheVariants as obligation
use Rattle.mg_model.specs.declared.faults.Fault.{Fault}
use Rattle.mg_model.specs.declared.steps.StepName.{StepName}
use Rattle.mg_model.specs.Script.{Script}
use Rattle.mg_model.specs.Configuration.{Configuration}
use Rattle.mg_model.specs.Steps.{Step, steps_of}
use Rattle.mg_model.specs.Entries.{Entry, IsPointOf, IsCovered}
use Rattle.mg_model.specs.Obligations.{JoinedAreMarked, EndedIsCleared, CreatedAreUnbound, NamesAreLive}
use Rattle.closure.specs.declared.broken.Broken.{Broken}
use Rattle.closure.specs.declared.broken.Broken.TheVariants.{JoinedMarked, EndedCleared, CreatedUnbound, NamesLive, StepsCovered}

-- ---- steps

-- the result of each of these steps is in some entry
abbrev pub AreCovered : List Entry → List Step → Type 0
AreCovered entries steps = (s : ℕ) (step : Step) → slice_get steps s ≡ Some step → IsCovered entries step.1

-- the same of those before a place
abbrev pub AreCoveredBelow : List Entry → List Step → ℕ → Type 0
AreCoveredBelow entries steps n =
    (s : ℕ) → s < n → (step : Step) → slice_get steps s ≡ Some step → IsCovered entries step.1

-- the first of these steps whose result is in no entry has this name
pub record IsFirstUncovered (entries : List Entry) (steps : List Step) (name : StepName) : Type 0 where
  pub place : ℕ
  pub step : Step
  pub at_place : slice_get steps place ≡ Some step
  pub named : name ≡ step.0
  pub uncovered : IsCovered entries step.1 → ⊥
  pub before : AreCoveredBelow entries steps place

abbrev pub StepsFinding : List Entry → List Step → Option StepName → Type 0
StepsFinding entries steps None = AreCovered entries steps
StepsFinding entries steps (Some name) = IsFirstUncovered entries steps name

-- ---- configurations

-- each obligation of a configuration holds
pub record IsKept (script : Script) (entries : List Entry) (c : Configuration) : Type 0 where
  pub marked : JoinedAreMarked script c
  pub cleared : EndedIsCleared script c
  pub unbound : CreatedAreUnbound script c
  pub live : NamesAreLive c
  pub covered : AreCovered entries (steps_of script c)

-- this obligation of a configuration is broken, and those before it hold
abbrev pub IsFirstBroken : Script → List Entry → Configuration → Broken → Type 0
IsFirstBroken script entries c JoinedMarked = JoinedAreMarked script c → ⊥
IsFirstBroken script entries c EndedCleared = JoinedAreMarked script c × (EndedIsCleared script c → ⊥)
IsFirstBroken script entries c CreatedUnbound =
    JoinedAreMarked script c × EndedIsCleared script c × (CreatedAreUnbound script c → ⊥)
IsFirstBroken script entries c NamesLive =
    JoinedAreMarked script c × EndedIsCleared script c × CreatedAreUnbound script c × (NamesAreLive c → ⊥)
IsFirstBroken script entries c (StepsCovered name) =
    JoinedAreMarked script c × EndedIsCleared script c × CreatedAreUnbound script c × NamesAreLive c
    × IsFirstUncovered entries (steps_of script c) name

abbrev pub ConfigurationFinding : Script → List Entry → Configuration → Option Broken → Type 0
ConfigurationFinding script entries c None = IsKept script entries c
ConfigurationFinding script entries c (Some broken) = IsFirstBroken script entries c broken

-- ---- entries

-- at a number of an entry, where it is a point's
abbrev pub NumberFinding : Script → List Entry → Entry → ℕ → Option Broken → Type 0
NumberFinding script entries entry number None = (c : Configuration) → IsPointOf entry number c → IsKept script entries c
NumberFinding script entries entry number (Some broken) =
    (c : Configuration) × (IsPointOf entry number c × IsFirstBroken script entries c broken)

-- each obligation of each of the entry's points below a number holds
abbrev pub AreKeptBelow : Script → List Entry → Entry → ℕ → Type 0
AreKeptBelow script entries entry n =
    (number : ℕ) → number < n → (c : Configuration) → IsPointOf entry number c → IsKept script entries c

-- each obligation of each point of the entry holds
abbrev pub IsEntryKept : Script → List Entry → Entry → Type 0
IsEntryKept script entries entry = (number : ℕ) (c : Configuration) → IsPointOf entry number c → IsKept script entries c

-- the point with this number is the entry's first that breaks an obligation, and breaks this one first
pub record IsFirstPoint (script : Script) (entries : List Entry) (entry : Entry) (number : ℕ) (broken : Broken) : Type 0 where
  pub configuration : Configuration
  pub is_point : IsPointOf entry number configuration
  pub first : IsFirstBroken script entries configuration broken
  pub before : AreKeptBelow script entries entry number

abbrev pub EntryFinding : Script → List Entry → Entry → Option (ℕ × Broken) → Type 0
EntryFinding script entries entry None = IsEntryKept script entries entry
EntryFinding script entries entry (Some found) = IsFirstPoint script entries entry found.0 found.1

-- the fault of an obligation of a point
abbrev pub obligation_broken : Broken → Obligation
obligation_broken JoinedMarked = obligation.JoinedMarked
obligation_broken EndedCleared = obligation.EndedCleared
obligation_broken CreatedUnbound = obligation.CreatedUnbound
obligation_broken NamesLive = obligation.NamesLive
obligation_broken (StepsCovered name) = obligation.StepsCovered

abbrev pub step_broken : Broken → Option StepName
step_broken (StepsCovered name) = Some name
step_broken _ = None

abbrev pub fault_at : ℕ → ℕ → Broken → Fault
fault_at place number broken =
    record { obligation = obligation_broken broken; entry = Some place; point = Some number; step = step_broken broken }

-- the fault of an obligation of no point
abbrev pub whole_fault : Obligation → Fault
whole_fault obligation = record { obligation = obligation; entry = None; point = None; step = None }

-- each obligation of each point of each entry below a place holds
abbrev pub EntriesAreKeptBelow : Script → List Entry → ℕ → Type 0
EntriesAreKeptBelow script entries n =
    (place : ℕ) → place < n → (entry : Entry) → slice_get entries place ≡ Some entry → IsEntryKept script entries entry

-- the fault is that of the first obligation of a point that is broken
pub record IsFirstEntry (script : Script) (entries : List Entry) (fault : Fault) : Type 0 where
  pub place : ℕ
  pub entry : Entry
  pub at_place : slice_get entries place ≡ Some entry
  pub number : ℕ
  pub broken : Broken
  pub first : IsFirstPoint script entries entry number broken
  pub before : EntriesAreKeptBelow script entries place
  pub named : fault ≡ fault_at place number broken

abbrev pub PointsFinding : Script → List Entry → Option Fault → Type 0
PointsFinding script entries None =
    (place : ℕ) (entry : Entry) → slice_get entries place ≡ Some entry → IsEntryKept script entries entry
PointsFinding script entries (Some fault) = IsFirstEntry script entries fault

-- That an obligation is needed: the script and the entries break this obligation alone, first at a given place, and a run of the script leaves
-- a world that isn't good. A reader should check that the script and the entries meet the premises of the promise.
use Rattle.std.specs.Prelude.{◌≡◌, ℕ, List, Option, Some, None}
use Rattle.std.specs.List.{All}
use Rattle.mg_model.specs.Entries.{Entry}
use Rattle.mg_names.specs.declared.obligations.Obligation.{Obligation}
use Rattle.mg_model.specs.declared.faults.Fault.{Fault}
use Rattle.mg_model.specs.declared.steps.StepName.{StepName}
use Rattle.mg_model.specs.Obligations.{Claim, Holds, IsFirstFault, obligation_of}
use Rattle.mg_model.specs.Script.{Script}
use Rattle.mg_model.specs.declared.events.Event.{Event}
use Rattle.mg_model.specs.World.{World, Opened, IsOpening, Runs, IsGood}
use Rattle.mg_model.specs.Accepted.{IsScript, IsEntryOf}

-- what the answer `no` says where a claim of the certificate as a whole is broken, and where one of a point of an entry is
abbrev pub whole_fault : Obligation → Fault
whole_fault obligation = record { obligation = obligation; entry = None; point = None; step = None }

abbrev pub fault_at : Obligation → (entry point : ℕ) → Option StepName → Fault
fault_at obligation entry point step = record { obligation = obligation; entry = Some entry; point = Some point; step = step }

-- this is the first fault, and every claim of another obligation holds
pub record BreaksOnly (script : Script) (entries : List Entry) (fault : Fault) : Type 0 where
  pub first : IsFirstFault script entries fault
  pub others : (other : Claim) → (obligation_of other ≡ fault.obligation → ⊥) → Holds script entries other

pub record EndsBadly (script : Script) : Type 0 where
  pub calls : List Opened
  pub events : List Event
  pub opening : World
  pub end : World
  pub opens : IsOpening script calls opening
  pub runs : Runs script events opening end
  pub bad : IsGood script end → ⊥

-- the script and the entries show that the obligation of the fault is needed
pub record IsNeeded (script : Script) (entries : List Entry) (fault : Fault) : Type 0 where
  pub accepted : IsScript script
  pub listed : All (IsEntryOf script) entries
  pub breaks : BreaksOnly script entries fault
  pub ends : EndsBadly script

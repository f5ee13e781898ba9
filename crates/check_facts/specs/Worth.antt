-- What a yes is worth, and the status that it has where that counts. No public clause speaks of these words.
use Rattle.std.specs.Prelude.{◌≡◌, ◌↔◌, ◌⊎◌, ◌&&◌, not, Bool, true, false, IsTrue, List, [], ◌∷◌, Option, Some, None}
use Rattle.std.specs.List.{list_all}
use Rattle.program_rim.specs.declared.status.Status.{Status}
use Rattle.program_rim.specs.declared.status.Status.TheVariants as status
use Rattle.mg_model.specs.Script.{Script}
use Rattle.mg_model.specs.Entries.{Entry}
use Rattle.call_ends.specs.Endings.{AreStateEndings, IsEnding}
use Rattle.call_ends.specs.declared.ending.Ending.{Ending}
use Rattle.call_ends.specs.declared.ending.Ending.TheVariants as ending
use Rattle.call_ways.specs.Candidates.{candidates_of}
use Rattle.call_ways.specs.Warnings.{ArePicked}
use Rattle.call_ways.specs.declared.warning.Warning.{Warning}
use Rattle.program_rim.specs.Statuses.{code_of}
use Rattle.check_facts.specs.Forgotten.{AreTelephones, SomeIsForgotten}
use Rattle.check_facts.specs.Saying.{ComeToTooMany, IsInDoubt, IsWithoutWarning, ends_well}
use Rattle.check_facts.specs.declared.worth.Worth.{Worth}

-- these are all the warnings, how calls can be brought to their ends in each state and at all, the telephones of each line, and whether one is forgotten
pub record IsWorthSo (table : Script) (entries : List Entry) (worth : Worth) : Type 0 where
  pub warnings : ArePicked table entries (candidates_of table entries) worth.warnings.items
  pub endings : AreStateEndings table entries worth.endings.items
  pub ending : IsEnding table entries worth.ending
  pub telephones : AreTelephones table entries worth.telephones.items
  pub forgotten : IsTrue worth.is_one_forgotten ↔ SomeIsForgotten table entries

-- so it is; or calls come to too many configurations to tell
abbrev pub IsWorth : Script → List Entry → Option Worth → Type 0
IsWorth table entries None = ComeToTooMany table entries
IsWorth table entries (Some worth) = IsWorthSo table entries worth

-- each call can be brought to its end, wherever it has come to
abbrev pub each_ends : Ending → Bool
each_ends (ending.EachCanEnd moves) = true
each_ends (ending.Stuck way) = false
each_ends ending.TooMany = false

-- by the warnings, by whether each call can be brought to its end, and by whether all is well otherwise
abbrev pub strict_status : List Warning → Bool → Bool → Status
strict_status [] true true = status.Yes
strict_status [] true false = status.No
strict_status [] false well = status.No
strict_status (first ∷ more) each well = status.No

abbrev pub yes_status : Bool → Option Worth → Status
yes_status false worth = status.Yes
yes_status true None = status.No
yes_status true (Some worth) =
    strict_status worth.warnings.items (each_ends worth.ending) (list_all ends_well worth.endings.items && not worth.is_one_forgotten)

-- the status of a yes, where warnings count or don't
abbrev pub IsYesStatus : Bool → Script → List Entry → Status → Type 0
IsYesStatus false table entries status = code_of status ≡ 0
IsYesStatus true table entries status =
    ((code_of status ≡ 0) × IsWithoutWarning table entries) ⊎ ((code_of status ≡ 1) × IsInDoubt table entries)

-- What an answer of the checker says of a certificate: that none of its obligations is broken, and how many points it has, or which
-- is the first.
use Rattle.std.specs.Prelude.{List, Option, Some, None}
use Rattle.mg_model.specs.declared.faults.Fault.{Fault}
use Rattle.mg_model.specs.Script.{Script}
use Rattle.mg_model.specs.Steps.{opening, reset}
use Rattle.mg_model.specs.Entries.{Entry, HavePoints, IsCovered}
use Rattle.mg_model.specs.Obligations.{NoneBroken, IsFirstFault}
use Rattle.closure.specs.declared.first_fault.Finding.{Finding}
use Rattle.closure.specs.declared.first_fault.Finding.TheVariants as finding

abbrev pub IsAnswer : Script → List Entry → Option Fault → Type 0
IsAnswer script entries None = NoneBroken script entries
IsAnswer script entries (Some fault) = IsFirstFault script entries fault

abbrev pub IsFinding : Script → List Entry → Finding → Type 0
IsFinding script entries (finding.Kept points) = NoneBroken script entries × HavePoints entries points
IsFinding script entries (finding.Broken fault) = IsFirstFault script entries fault

-- the same of the opening and of the restart alone
abbrev pub IsWholeAnswer : Script → List Entry → Option Fault → Type 0
IsWholeAnswer script entries None = IsCovered entries (opening script) × IsCovered entries (reset script)
IsWholeAnswer script entries (Some fault) = IsFirstFault script entries fault

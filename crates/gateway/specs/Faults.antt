-- The faults of an opening and of a beginning: their numbers and names.
use Rattle.std.specs.Prelude.{ℕ, List, codes}
use Rattle.gateway.specs.declared.fault.OpenFault.{OpenFault}
use Rattle.gateway.specs.declared.fault.OpenFault.TheVariants.{NoMemory, UnknownLine, Taken}
use Rattle.gateway.specs.declared.fault.BeginFault.{BeginFault}
use Rattle.gateway.specs.declared.fault.BeginFault.TheVariants as begin

abbrev pub number_of : OpenFault → ℕ
number_of NoMemory = 0
number_of UnknownLine = 1
number_of Taken = 2

abbrev pub name_of : OpenFault → List ℕ
name_of NoMemory = codes "NoMemory"
name_of UnknownLine = codes "UnknownLine"
name_of Taken = codes "Taken"

abbrev pub begin_number_of : BeginFault → ℕ
begin_number_of begin.NoMemory = 0
begin_number_of begin.UnknownCall = 1
begin_number_of begin.Taken = 2
begin_number_of begin.CannotHappen = 3

abbrev pub begin_name_of : BeginFault → List ℕ
begin_name_of begin.NoMemory = codes "NoMemory"
begin_name_of begin.UnknownCall = codes "UnknownCall"
begin_name_of begin.Taken = codes "Taken"
begin_name_of begin.CannotHappen = codes "CannotHappen"

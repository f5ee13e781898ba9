-- The fault of a number that isn't given, by number and name.
use Rattle.std.specs.Prelude.{ℕ, List, codes}
use Rattle.identifiers.specs.declared.fault.CreateFault.{CreateFault}
use Rattle.identifiers.specs.declared.fault.CreateFault.TheVariants.{Full, NoMemory}

abbrev pub number_of : CreateFault → ℕ
number_of NoMemory = 0
number_of Full = 1

abbrev pub name_of : CreateFault → List ℕ
name_of NoMemory = codes "NoMemory"
name_of Full = codes "Full"

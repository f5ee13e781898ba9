-- The faults of what happens on a line: their numbers and names.
use Rattle.std.specs.Prelude.{ℕ, List, codes}
use Rattle.line_events.specs.declared.fault.LineFault.{LineFault}
use Rattle.line_events.specs.declared.fault.LineFault.TheVariants.{UnknownLine, CannotHappen, NoMemory}

abbrev pub number_of : LineFault → ℕ
number_of NoMemory = 0
number_of UnknownLine = 1
number_of CannotHappen = 2

abbrev pub name_of : LineFault → List ℕ
name_of NoMemory = codes "NoMemory"
name_of UnknownLine = codes "UnknownLine"
name_of CannotHappen = codes "CannotHappen"

-- The faults of a digit map's text: their numbers and names.
use Rattle.std.specs.Prelude.{ℕ, Bool, true, false, List, codes}
use Rattle.digits.specs.declared.fault.MapFault.{MapFault}
use Rattle.digits.specs.declared.fault.MapFault.TheVariants.{Empty, BadSymbol, BadRange, TooLong, NoMemory}

abbrev pub number_of : MapFault → ℕ
number_of NoMemory = 0
number_of Empty = 1
number_of (BadSymbol at) = 2
number_of (BadRange at) = 3
number_of TooLong = 4

abbrev pub name_of : MapFault → List ℕ
name_of NoMemory = codes "NoMemory"
name_of Empty = codes "Empty"
name_of (BadSymbol at) = codes "BadSymbol"
name_of (BadRange at) = codes "BadRange"
name_of TooLong = codes "TooLong"

-- the fault says that memory ran out
abbrev pub is_memory : MapFault → Bool
is_memory NoMemory = true
is_memory Empty = false
is_memory (BadSymbol at) = false
is_memory (BadRange at) = false
is_memory TooLong = false

-- The numbers and names of the faults of a command.
use Rattle.std.specs.Prelude.{ℕ, List, codes}
use Rattle.mg_names.specs.Codes.{code_name, code_number}
use Rattle.mg_model.specs.declared.items.Item.{Item}
use Rattle.mg_model.specs.Board.{Board}
use Rattle.mg_model.specs.Items.{IsRefused}
use Rattle.contexts.specs.declared.fault.ExecFault.{ExecFault}
use Rattle.contexts.specs.declared.fault.ExecFault.TheVariants.{Code, NoMemory}

abbrev pub fault_number : ExecFault → ℕ
fault_number (Code code) = code_number code
fault_number NoMemory = 0

abbrev pub fault_name : ExecFault → List ℕ
fault_name (Code code) = code_name code
fault_name NoMemory = codes "NoMemory"

-- a code is the one that refuses the command
abbrev pub IsFault : Board → Item → ExecFault → Type 0
IsFault b item (Code code) = IsRefused b item code
IsFault b item NoMemory = Unit {0}

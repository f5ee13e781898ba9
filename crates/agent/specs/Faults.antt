-- The faults of an agent's steps: their numbers and names. A reader should check that no two have one number.
use Rattle.std.specs.Prelude.{ℕ, List, codes}
use Rattle.agent.specs.declared.fault.PlainFault.{PlainFault}
use Rattle.agent.specs.declared.fault.PlainFault.TheVariants.{NotEnabled, NoMemory}

abbrev pub number_of : PlainFault → ℕ
number_of NotEnabled = 1
number_of NoMemory = 3

abbrev pub name_of : PlainFault → List ℕ
name_of NotEnabled = codes "NotEnabled"
name_of NoMemory = codes "NoMemory"

-- Why a line is not added, by number and name.
use Rattle.std.specs.Prelude.{ℕ, List, codes}
use Rattle.terminations.specs.declared.faults.AddLineFault.{AddLineFault}
use Rattle.terminations.specs.declared.faults.AddLineFault.TheVariants as line

abbrev pub line_number : AddLineFault → ℕ
line_number line.NoMemory = 0
line_number line.Known = 1

abbrev pub line_name : AddLineFault → List ℕ
line_name line.NoMemory = codes "NoMemory"
line_name line.Known = codes "Known"

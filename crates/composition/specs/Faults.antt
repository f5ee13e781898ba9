-- The faults for which there is no verdict: their numbers and names.
use Rattle.std.specs.Prelude.{ℕ, List, codes}
use Rattle.composition.specs.declared.verdict.CheckFault.{CheckFault}
use Rattle.composition.specs.declared.verdict.CheckFault.TheVariants.{Script, Cert, NoMemory}

abbrev pub number_of : CheckFault → ℕ
number_of (Script fault) = 1
number_of (Cert fault) = 2
number_of NoMemory = 3

abbrev pub name_of : CheckFault → List ℕ
name_of (Script fault) = codes "Script"
name_of (Cert fault) = codes "Cert"
name_of NoMemory = codes "NoMemory"

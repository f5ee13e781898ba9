-- What the configurations that calls come to tell of a warning, whatever entries they come through. No public clause speaks of these words.
use Rattle.std.specs.Prelude.{◌↔◌, Bool, IsTrue, List}
use Rattle.mg_model.specs.Script.{Script}
use Rattle.mg_model.specs.Entries.{Entry}
use Rattle.configuration.specs.Packed.{Words}
use Rattle.call_ways.specs.Ways.{AreAll}
use Rattle.call_ways.specs.declared.sights.Sight.{Sight}
use Rattle.call_ways.specs.declared.warning.Warning.{Warning}
use Rattle.call_ways.specs.Warnings.{IsShown, IsWarning}

-- some of them shows the one thing, and none the other
abbrev pub IsShownWithout : Script → List Entry → Sight → Sight → Type 0
IsShownWithout script entries one other = IsShown script entries one × (IsShown script entries other → ⊥)

-- the answer is yes exactly where it is so
abbrev pub TellsWithout : Script → List Words → Bool → Sight → Sight → Type 0
TellsWithout script configs holds one other =
    (entries : List Entry) → AreAll script entries configs → IsTrue holds ↔ IsShownWithout script entries one other

-- the answer is yes exactly where some of them shows it
abbrev pub TellsShown : Script → List Words → Bool → Sight → Type 0
TellsShown script configs holds what =
    (entries : List Entry) → AreAll script entries configs → IsTrue holds ↔ IsShown script entries what

abbrev pub Tells : Script → List Words → Bool → Warning → Type 0
Tells script configs holds what = (entries : List Entry) → AreAll script entries configs → IsTrue holds ↔ IsWarning script entries what

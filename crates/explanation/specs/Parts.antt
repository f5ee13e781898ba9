-- The part of an entry that calls come to: it has each configuration of the entry that a call comes to. A reader should check that nothing is said
-- of what else it has, and that a part that isn't known promises nothing: where that may be answered stands at each call. This profile's own.
use Rattle.std.specs.Prelude.{◌≡◌, ⊤, ℕ, List, Option, Some, None, IfSome, slice_get}
use Rattle.mg_model.specs.Script.{Script}
use Rattle.mg_model.specs.Configuration.{Configuration}
use Rattle.mg_model.specs.Entries.{Entry, Includes}
use Rattle.configuration.specs.Packed.{Words}
use Rattle.configuration.specs.Config.{configuration_of}
use Rattle.call_ways.specs.Ways.{ComesTo}
use Rattle.explanation.specs.declared.part.Part.{Part}
use Rattle.explanation.specs.declared.part.Part.TheVariants as part

-- the part has the configuration
abbrev pub Holds : Part → Configuration → Type 0
Holds part.Nothing c = ⊥
Holds (part.Within entry) c = Includes entry c
Holds part.Unknown c = ⊤

-- of the entry's configurations it has each that a call comes to
abbrev pub IsPartOf : Script → List Entry → Entry → Part → Type 0
IsPartOf script entries entry found = (c : Configuration) → ComesTo script entries c → Includes entry c → Holds found c

-- ---- no public clause speaks of the words below

-- the entry that was found, if one was, has the configuration
abbrev pub IsHeld : Option Entry → Configuration → Type 0
IsHeld None c = ⊥
IsHeld (Some found) c = Includes found c

-- the entry that was found is of the other one's state
abbrev pub IsOfState : Entry → Option Entry → Type 0
IsOfState entry found = IfSome found (λ narrow. narrow.state ≡ entry.state)

-- of the entry's configurations the one that was found has each of these
abbrev pub HoldsEach : Entry → List Words → Option Entry → Type 0
HoldsEach entry configs found =
    (place : ℕ) (w : Words) → slice_get configs place ≡ Some w → Includes entry (configuration_of w) → IsHeld found (configuration_of w)

-- What a certificate that is a yes says without need, what of its script no call uses, the lines that no call hears, and the notes that no state takes. A
-- reader should check that each warning is about the configurations that calls come to through listed ones, and that all that is so is warned of. This
-- profile's own.
use Rattle.std.specs.Prelude.{◌≡◌, ◌⊎◌, ℕ, ◌<◌, false, IsTrue, List, [], ◌∷◌, length, Some, None, is_some, slice_get}
use Rattle.mg_names.specs.declared.phases.LinkPhase.TheVariants.{Resting}
use Rattle.mg_model.specs.Script.{Script}
use Rattle.mg_model.specs.Tables.{state_of, items_of, raises, target_in}
use Rattle.mg_model.specs.Configuration.{Configuration}
use Rattle.mg_model.specs.Paths.{AreJoined, HasPath}
use Rattle.mg_model.specs.Steps.{Step, steps_of}
use Rattle.mg_model.specs.Entries.{Entry, IsPointOf, Includes}
use Rattle.entry_table.specs.Index.{places_of}
use Rattle.call_ways.specs.Arrows.{IsEnteredEmpty, IsEnteredSending, arrows_of}
use Rattle.call_ways.specs.Fates.{HasFate}
use Rattle.call_ways.specs.Ways.{ComesTo}
use Rattle.call_ways.specs.declared.arrows.Arrow.{Arrow}
use Rattle.call_ways.specs.declared.fates.Fate.{Fate}
use Rattle.call_ways.specs.declared.fates.Fate.TheVariants as fate
use Rattle.call_ways.specs.declared.warning.Warning.{Warning}
use Rattle.call_ways.specs.declared.warning.Warning.TheVariants as warning
use Rattle.call_ways.specs.declared.sights.Sight.{Sight}
use Rattle.call_ways.specs.declared.sights.Sight.TheVariants as sight

-- ---- what a configuration shows; where there is a path of media from line i to line j, j hears i

abbrev pub RestsIn : Configuration → ℕ → Type 0
RestsIn c s = (c.state ≡ s) × (c.link ≡ Resting)

abbrev pub Shows : Script → Configuration → Sight → Type 0
Shows script c (sight.Stands s) = c.state ≡ s
Shows script c (sight.Leaves s) =
    (c.state ≡ s) × ((n : ℕ) × ((step : Step) × ((slice_get (steps_of script c) n ≡ Some step) × (step.1.state ≡ s → ⊥))))
Shows script c (sight.Raises s i kind) = RestsIn c s × IsTrue (raises (items_of script (c.events i)) kind)
Shows script c (sight.Joins s pair) = (c.state ≡ s) × AreJoined c pair.first pair.second
Shows script c (sight.Deafens s i) = RestsIn c s × (items_of script (c.events i) ≡ [])
Shows script c (sight.Rests s) = RestsIn c s
Shows script c (sight.Hears s i j) = RestsIn c s × HasPath c i j
Shows script c (sight.Misses s i j) = RestsIn c s × (HasPath c i j → ⊥)
Shows script c (sight.JoinsAt s link pair) = (c.state ≡ s) × (c.link ≡ link) × AreJoined c pair.first pair.second

-- some configuration that calls come to shows it
abbrev pub IsShown : Script → List Entry → Sight → Type 0
IsShown script entries what = (c : Configuration) × (ComesTo script entries c × Shows script c what)

-- ---- points of an entry

-- a call comes to the point with a number of the entry at a place; no call does
abbrev pub IsReached : Script → List Entry → ℕ → ℕ → Type 0
IsReached script entries e p =
    (entry : Entry) × ((slice_get entries e ≡ Some entry) × ((c : Configuration) × (IsPointOf entry p c × ComesTo script entries c)))

abbrev pub IsUnreached : Script → List Entry → ℕ → ℕ → Type 0
IsUnreached script entries e p =
    (entry : Entry) × ((slice_get entries e ≡ Some entry) × ((c : Configuration) × (IsPointOf entry p c × (ComesTo script entries c → ⊥))))

-- the first point of the entry at a place to which no call comes
pub record IsFirstUnreached (script : Script) (entries : List Entry) (e p : ℕ) : Type 0 where
  pub unreached : IsUnreached script entries e p
  pub before : (q : ℕ) → q < p → IsUnreached script entries e q → ⊥

-- ---- entries that others have

-- each point of the one is in the other
abbrev pub AllPointsIn : Entry → Entry → Type 0
AllPointsIn entry other = (p : ℕ) (c : Configuration) → IsPointOf entry p c → Includes other c

-- each point of the first is in the second, another entry of its state; of two that have each other's points the earlier one counts
pub record IsHeldBy (entries : List Entry) (e o : ℕ) : Type 0 where
  pub entry : Entry
  pub other : Entry
  pub at_place : slice_get entries e ≡ Some entry
  pub other_place : slice_get entries o ≡ Some other
  pub another : e ≡ o → ⊥
  pub same_state : entry.state ≡ other.state
  pub held : AllPointsIn entry other
  pub earlier : AllPointsIn other entry → o < e

-- ---- commands

-- on some arrow of the script that leads to a state, this becomes of the state's command at a place
abbrev pub IsMet : Script → List Entry → ℕ → ℕ → Fate → Type 0
IsMet script entries s place it =
    (a : ℕ) × ((arrow : Arrow) × ((slice_get (arrows_of script) a ≡ Some arrow) × ((arrow.to ≡ s) × HasFate script entries arrow place it)))

-- on the arrow at a place its command is refused, and never done
pub record IsNeverDone (script : Script) (entries : List Entry) (a place : ℕ) : Type 0 where
  pub arrow : Arrow
  pub at_place : slice_get (arrows_of script) a ≡ Some arrow
  pub refused : HasFate script entries arrow place fate.Refused
  pub never_done : HasFate script entries arrow place fate.Done → ⊥

-- the arrow at a place leads to a state that has commands, and each request of a call that enters over it is empty
pub record IsEmptyEachTime (script : Script) (entries : List Entry) (a : ℕ) : Type 0 where
  pub arrow : Arrow
  pub at_place : slice_get (arrows_of script) a ≡ Some arrow
  pub has_commands : (state_of script arrow.to).commands ≡ [] → ⊥
  pub empty : IsEnteredEmpty script entries arrow
  pub never_sent : IsEnteredSending script entries arrow → ⊥

-- ---- warnings

abbrev pub IsWarning : Script → List Entry → Warning → Type 0
IsWarning script entries (warning.StateUnlisted s) = places_of s entries ≡ []
IsWarning script entries (warning.StateNeverLeft s) =
    ((state_of script s).is_end ≡ false) × IsShown script entries (sight.Stands s) × (IsShown script entries (sight.Leaves s) → ⊥)
IsWarning script entries (warning.ArrowUnused s i kind) =
    IsTrue (is_some (target_in (state_of script s).on i kind)) × IsShown script entries (sight.Stands s)
    × (IsShown script entries (sight.Raises s i kind) → ⊥)
IsWarning script entries (warning.NoteSwallowed s i kind) =
    (s ≡ script.start → ⊥) × ((state_of script s).is_end ≡ false) × (target_in (state_of script s).on i kind ≡ None)
    × IsShown script entries (sight.Raises s i kind)
IsWarning script entries (warning.MarkUnneeded s pair) =
    IsShown script entries (sight.Stands s) × (IsShown script entries (sight.Joins s pair) → ⊥)
IsWarning script entries (warning.LineDeaf s i) = (i < length script.lines) × IsShown script entries (sight.Deafens s i)
IsWarning script entries (warning.CommandUnsent s place) =
    IsMet script entries s place fate.LeftOut × ((it : Fate) → (it ≡ fate.LeftOut → ⊥) → IsMet script entries s place it → ⊥)
IsWarning script entries (warning.CommandRefused a place) = IsNeverDone script entries a place
IsWarning script entries (warning.RequestEmpty a) = IsEmptyEachTime script entries a
IsWarning script entries (warning.EntryUnreached e) = (p : ℕ) → IsReached script entries e p → ⊥
IsWarning script entries (warning.EntryHeld e) = (o : ℕ) × IsHeldBy entries e o
IsWarning script entries (warning.PointUnreached e) =
    ((p : ℕ) × IsReached script entries e p) × ((p : ℕ) × IsUnreached script entries e p)

-- of some warnings those that are so, in their order
abbrev pub ArePicked : Script → List Entry → List Warning → List Warning → Type 0
ArePicked script entries [] found = found ≡ []
ArePicked script entries (first ∷ more) found =
    (IsWarning script entries first × ((rest : List Warning) × (ArePicked script entries more rest × (found ≡ first ∷ rest))))
    ⊎ ((IsWarning script entries first → ⊥) × ArePicked script entries more found)

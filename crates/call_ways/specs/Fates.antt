-- What becomes of each command of a state as a call enters it and its request goes to the gateway: the names that are bound then decide which commands are
-- sent, and the configuration that the ones before made decides what the gateway does. A reader should check that a command that is left out creates no name,
-- that one that is done changes what those behind it find, and that behind one that is refused none is reached. That one is done says that the gateway has no
-- ground of its own to refuse it; by 500 or 510 it may refuse any. This profile's own.
use Rattle.std.specs.Prelude.{◌≡◌, ◌↔◌, ℕ, Bool, true, false, if◌then◌else◌, IsTrue, List, [], ◌∷◌, map, Some, unwrap_or, slice_get}
use Rattle.mg_model.specs.declared.commands.Command.{Command}
use Rattle.mg_model.specs.Script.{Script}
use Rattle.mg_model.specs.Tables.{state_of}
use Rattle.mg_model.specs.Configuration.{Configuration}
use Rattle.mg_model.specs.Request.{Names, names_after, uses_known}
use Rattle.mg_model.specs.Effects.{effect, is_legal}
use Rattle.mg_model.specs.Steps.{bound_names}
use Rattle.mg_model.specs.Entries.{Entry}
use Rattle.call_ways.specs.Arrows.{Enters, IsEntered, IsEnteredEmpty, IsEnteredSending, arrows_of}
use Rattle.call_ways.specs.declared.arrows.Arrow.{Arrow}
use Rattle.call_ways.specs.declared.crossings.Crossing.{Crossing}
use Rattle.call_ways.specs.declared.fates.Fate.{Fate}
use Rattle.call_ways.specs.declared.fates.Fate.TheVariants as fate
use Rattle.call_ways.specs.declared.fate_sets.FateSet.{FateSet}

-- ---- what becomes of each command

-- of commands that are left of a request: these names are known, and the gateway came so far, or stopped before
abbrev pub fates : Script → Configuration → Names → Bool → List Command → List Fate
fates script c names reached [] = []
fates script c names reached (command ∷ more) =
    if uses_known names command
    then (if reached
    then (if is_legal c command
    then (fate.Done ∷ fates script (effect script c command) (names_after names command) true more)
    else (fate.Refused ∷ fates script c (names_after names command) false more))
    else (fate.NotReached ∷ fates script c (names_after names command) false more))
    else (fate.LeftOut ∷ fates script c names reached more)

-- of the commands of the state that a configuration was entered in
abbrev pub fates_in : Script → Configuration → List Fate
fates_in script c = fates script c (bound_names c) true (state_of script c.state).commands

-- ---- what becomes of them on an arrow

-- some call enters over the arrow, and this becomes of the command at a place of the state's list
abbrev pub HasFate : Script → List Entry → Arrow → ℕ → Fate → Type 0
HasFate script entries arrow place it =
    (c : Configuration) × (Enters script entries arrow c × (slice_get (fates_in script c) place ≡ Some it))

-- ---- what is told of an arrow

-- one of the fates is in a set of them
abbrev pub has : FateSet → Fate → Bool
has set fate.LeftOut = set.left_out
has set fate.NotReached = set.not_reached
has set fate.Refused = set.refused
has set fate.Done = set.done

abbrev pub no_fate : FateSet
no_fate = record { left_out = false; not_reached = false; refused = false; done = false }

-- the set at a place; past the last there is none
abbrev pub set_at : List FateSet → ℕ → FateSet
set_at sets place = unwrap_or (slice_get sets place) no_fate

-- each flag says what is so of the calls that enter over the arrow
pub record IsCrossing (script : Script) (entries : List Entry) (told : Crossing) : Type 0 where
  pub entered : IsTrue told.entered ↔ IsEntered script entries told.arrow
  pub empty : IsTrue told.empty ↔ IsEnteredEmpty script entries told.arrow
  pub sending : IsTrue told.sending ↔ IsEnteredSending script entries told.arrow
  pub fates : (place : ℕ) (it : Fate) → IsTrue (has (set_at told.fates.items place) it) ↔ HasFate script entries told.arrow place it

abbrev pub arrow_in : Crossing → Arrow
arrow_in told = told.arrow

-- of each arrow of the script, in their order
pub record AreCrossings (script : Script) (entries : List Entry) (told : List Crossing) : Type 0 where
  pub arrows : map arrow_in told ≡ arrows_of script
  pub each : (place : ℕ) (one : Crossing) → slice_get told place ≡ Some one → IsCrossing script entries one

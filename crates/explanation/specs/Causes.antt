-- What brought about that a configuration breaks an obligation. A reader should check that what a breach is about depends on no state and no link, and that
-- behind the command it is so in all that follows on the way; that no command did says that none can be named so. This profile's own.
use Rattle.std.specs.Prelude.{◌≡◌, ℕ, ◌<◌, true, false, List, [], ◌∷◌, length, take, map, Some, slice_get}
use Rattle.mg_names.specs.declared.context_values.ContextValue.TheVariants.{Stale}
use Rattle.mg_model.specs.declared.commands.Command.{Command}
use Rattle.mg_model.specs.declared.commands.Termination.TheVariants.{Line, Ephemeral}
use Rattle.mg_model.specs.declared.components.Remote.TheVariants.{Gone}
use Rattle.mg_model.specs.declared.steps.StepName.TheVariants.{Execute, Refuse}
use Rattle.mg_model.specs.Script.{Script}
use Rattle.mg_model.specs.Tables.{items_of, is_armed_list}
use Rattle.mg_model.specs.Configuration.{Configuration, is_free, is_null, is_present}
use Rattle.mg_model.specs.Paths.{AreJoined}
use Rattle.mg_model.specs.Steps.{request_in}
use Rattle.mg_model.specs.Effects.{effect}
use Rattle.explanation.specs.declared.breach.Breach.{Breach}
use Rattle.explanation.specs.declared.breach.Breach.TheVariants.{Joined, Away, Playing, NotArmed, Remaining, BoundContext, BoundEphemeral, StaleContext, GoneRemote}
use Rattle.call_ways.specs.declared.way.Move.{Move}
use Rattle.call_ways.specs.declared.way.Move.TheVariants.{Takes}
use Rattle.explanation.specs.declared.cause.Cause.{Cause}

-- a configuration shows what a breach is about, whatever its state and its link are
abbrev pub Shows : Script → Configuration → Breach → Type 0
Shows script c (Joined pair) = AreJoined c pair.first pair.second
Shows script c (Away i) = is_null (c.spot (Line i)) ≡ false
Shows script c (Playing i) = c.plays i ≡ true
Shows script c (NotArmed i) = is_armed_list (items_of script (c.events i)) ≡ false
Shows script c (Remaining k) = is_present (c.spot (Ephemeral k)) ≡ true
Shows script c (BoundContext j) = is_free (c.context j) ≡ false
Shows script c (BoundEphemeral k) = is_present (c.spot (Ephemeral k)) ≡ true
Shows script c (StaleContext j) = c.context j ≡ Stale
Shows script c (GoneRemote k) = c.remote k ≡ Gone

-- what of its request a move executes: all of it, or the commands before the one that is refused
abbrev pub executes : Script → Configuration → Move → List Command
executes script c (Takes Execute) = request_in script c c.state
executes script c (Takes (Refuse n)) = take n (request_in script c c.state)
executes script c _ = []

-- what commands make of a configuration, one after the other
abbrev pub made_by : Script → Configuration → List Command → List Configuration
made_by script c [] = []
made_by script c (command ∷ more) = effect script c command ∷ made_by script (effect script c command) more

-- the configurations that commands lead through: the one before them, and the one behind each
abbrev pub through : Script → Configuration → List Command → List Configuration
through script c commands = c ∷ made_by script c commands

-- the configurations that a way leads along: the one that it begins in, and the one behind each move
abbrev pub along : Configuration → List (Move × Configuration) → List Configuration
along from way = from ∷ map (λ (step : Move × Configuration). step.1) way

-- of some configurations the last that doesn't show it is at this place: all behind it do
pub record IsLastWithout (script : Script) (configurations : List Configuration) (breach : Breach) (place : ℕ) : Type 0 where
  pub last : Configuration
  pub at : slice_get configurations place ≡ Some last
  pub without : Shows script last breach → ⊥
  pub behind : (n : ℕ) (c : Configuration) → place < n → slice_get configurations n ≡ Some c → Shows script c breach

-- a command brought it about: the move that executes it is the last before which it isn't so, and the command the last of that move
pub record IsCause (script : Script) (from : Configuration) (way : List (Move × Configuration)) (breach : Breach) (cause : Cause) : Type 0 where
  pub before : Configuration
  pub by : Move
  pub behind : Configuration
  pub from_there : slice_get (along from way) cause.move_place ≡ Some before
  pub moved : slice_get way cause.move_place ≡ Some (by, behind)
  pub move : IsLastWithout script (along from way) breach cause.move_place
  pub of_state : cause.state ≡ before.state
  pub executed : cause.commands.items ≡ executes script before by
  pub within : cause.command_place < length cause.commands.items
  pub command : IsLastWithout script (through script before (executes script before by)) breach cause.command_place

-- no command brought it about
abbrev pub HasNoCause : Script → Configuration → List (Move × Configuration) → Breach → Type 0
HasNoCause script from way breach = (cause : Cause) → IsCause script from way breach cause → ⊥

-- ---- no public clause speaks of the words below

-- each of some configurations shows it
abbrev pub ShowEach : Script → List Configuration → Breach → Type 0
ShowEach script configurations breach = (n : ℕ) (c : Configuration) → slice_get configurations n ≡ Some c → Shows script c breach

-- of the commands that a move executes none is the last before which it isn't so
abbrev pub NoneWithin : Script → Configuration → Move → Breach → Type 0
NoneWithin script before by breach = (place : ℕ) → place < length (executes script before by)
    → IsLastWithout script (through script before (executes script before by)) breach place → ⊥

-- What a script and a certificate have that their readers accept, as far as the promise over runs needs it. A reader should check that
-- each is a fact of the text alone.
use Rattle.std.specs.Prelude.{◌≡◌, ℕ, ◌<◌, ◌≤◌, ◌==◌, Bool, true, false, not, ◌&&◌, IsTrue, List, [], ◌∷◌, length, Contains, Option, Some, None}
use Rattle.std.specs.List.{All, list_all}
use Rattle.mg_model.specs.declared.commands.Command.{Command}
use Rattle.mg_model.specs.declared.commands.Command.TheVariants.{AddLine, AddEphemeral, ModifyLine, ModifyEphemeral, MoveLine, MoveEphemeral, Subtract, SubtractAll, SetTopology}
use Rattle.mg_model.specs.declared.commands.Place.{Place}
use Rattle.mg_model.specs.declared.commands.Place.TheVariants.{NullContext, Context}
use Rattle.mg_model.specs.declared.commands.RemoteOption.{RemoteOption}
use Rattle.mg_model.specs.declared.commands.RemoteOption.TheVariants.{NoneGiven, Peer}
use Rattle.mg_model.specs.declared.commands.Termination.{Termination}
use Rattle.mg_model.specs.declared.commands.Termination.TheVariants.{Line, Ephemeral}
use Rattle.mg_model.specs.Configuration.{is_same}
use Rattle.mg_model.specs.Entries.{Entry, Component, links, spots, modes, events, plays, contexts, remotes, cuts}
use Rattle.mg_model.specs.Request.{created_context, created_ephemeral}
use Rattle.mg_model.specs.Script.{Script, State}

-- ---- scripts

-- a termination that the script declares
abbrev pub IsSlot : Script → Termination → Type 0
IsSlot script (Line i) = i < length script.lines
IsSlot script (Ephemeral k) = k < length script.ephemerals

abbrev pub IsContext : Script → ℕ → Type 0
IsContext script j = j < length script.contexts

abbrev pub IsPlace : Script → Place → Type 0
IsPlace script NullContext = Unit {0}
IsPlace script (Context j) = IsContext script j

abbrev pub IsRemote : Script → Option RemoteOption → Type 0
IsRemote script None = Unit {0}
IsRemote script (Some NoneGiven) = Unit {0}
IsRemote script (Some (Peer k)) = IsSlot script (Ephemeral k)

-- each name of a command is declared
abbrev pub IsCommandOf : Script → Command → Type 0
IsCommandOf script (AddLine create j i options) = IsContext script j × IsSlot script (Line i)
IsCommandOf script (AddEphemeral create j k options) =
    IsContext script j × IsSlot script (Ephemeral k) × IsRemote script options.remote
IsCommandOf script (ModifyLine place i options) = IsPlace script place × IsSlot script (Line i)
IsCommandOf script (ModifyEphemeral place k options) =
    IsPlace script place × IsSlot script (Ephemeral k) × IsRemote script options.remote
IsCommandOf script (MoveLine j i options) = IsContext script j × IsSlot script (Line i)
IsCommandOf script (MoveEphemeral j k options) =
    IsContext script j × IsSlot script (Ephemeral k) × IsRemote script options.remote
IsCommandOf script (Subtract j t) = IsContext script j × IsSlot script t
IsCommandOf script (SubtractAll j) = IsContext script j
IsCommandOf script (SetTopology j t u topology) = IsContext script j × IsSlot script t × IsSlot script u

-- a command creates no name that another one creates
abbrev pub is_apart : Option ℕ → Option ℕ → Bool
is_apart None other = true
is_apart (Some i) None = true
is_apart (Some i) (Some j) = not (i == j)

abbrev pub creates_apart : Command → Command → Bool
creates_apart one other =
    is_apart (created_context one) (created_context other) && is_apart (created_ephemeral one) (created_ephemeral other)

-- no name is created twice
abbrev pub create_once : List Command → Bool
create_once [] = true
create_once (command ∷ more) = list_all (creates_apart command) more && create_once more

abbrev pub IsStateOf : Script → State → Type 0
IsStateOf script state = All (IsCommandOf script) state.commands × IsTrue (create_once state.commands)

-- at most four lines, four contexts and four ephemerals; commands name what is declared, and a state creates no name twice
pub record IsScript (script : Script) : Type 0 where
  pub lines : length script.lines ≤ 4
  pub ephemerals : length script.ephemerals ≤ 4
  pub contexts : length script.contexts ≤ 4
  pub states : All (IsStateOf script) script.states

-- the most commands of a state
abbrev pub most_commands : ℕ
most_commands = 16

-- no state has more
abbrev pub HasFewCommands : Script → Type 0
HasFewCommands script = All (λ (state : State). length state.commands ≤ most_commands) script.states

-- ---- certificates

-- the component of an entry that lists a thing of a configuration
abbrev pub is_links : Component → Bool
is_links (links values) = true
is_links component = false

abbrev pub is_spots : Termination → Component → Bool
is_spots t (spots u values) = is_same t u
is_spots t component = false

abbrev pub is_modes : Termination → Component → Bool
is_modes t (modes u values) = is_same t u
is_modes t component = false

abbrev pub is_events : ℕ → Component → Bool
is_events i (events j values) = i == j
is_events i component = false

abbrev pub is_plays : ℕ → Component → Bool
is_plays i (plays j values) = i == j
is_plays i component = false

abbrev pub is_contexts : ℕ → Component → Bool
is_contexts j (contexts i values) = j == i
is_contexts j component = false

abbrev pub is_remotes : ℕ → Component → Bool
is_remotes k (remotes i values) = k == i
is_remotes k component = false

abbrev pub is_cuts : Termination → Termination → Component → Bool
is_cuts t u (cuts x y values) = is_same t x && is_same u y
is_cuts t u component = false

abbrev pub HasOne : Entry → (Component → Bool) → Type 0
HasOne entry test = (component : Component) × Contains entry.components component × IsTrue (test component)

-- an entry lists the link, and each thing of each name that the script declares
pub record IsEntryOf (script : Script) (entry : Entry) : Type 0 where
  pub lines : entry.lines ≡ length script.lines
  pub link : HasOne entry is_links
  pub spot : (t : Termination) → IsSlot script t → HasOne entry (is_spots t)
  pub mode : (t : Termination) → IsSlot script t → HasOne entry (is_modes t)
  pub event : (i : ℕ) → i < length script.lines → HasOne entry (is_events i)
  pub play : (i : ℕ) → i < length script.lines → HasOne entry (is_plays i)
  pub context : (j : ℕ) → IsContext script j → HasOne entry (is_contexts j)
  pub remote : (k : ℕ) → k < length script.ephemerals → HasOne entry (is_remotes k)
  pub cut : (t u : Termination) → IsSlot script t → IsSlot script u → is_same t u ≡ false → HasOne entry (is_cuts t u)

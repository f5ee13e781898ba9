-- The built request of a state: its commands in order, without those that use a name that is neither bound nor created
-- by an earlier command that was kept. This profile's own. A reader should check which names each command uses: a
-- created name is not used by the command that creates it, a Remote is.
use Rattle.std.specs.Prelude.{ℕ, Bool, true, ◌&&◌, ◌||◌, if◌then◌else◌, List, [], ◌∷◌, Option, Some, None}
use Rattle.mg_model.specs.declared.commands.Command.{Command}
use Rattle.mg_model.specs.declared.commands.Command.TheVariants.{AddLine, AddEphemeral, ModifyLine, ModifyEphemeral, MoveLine, MoveEphemeral, Subtract, SubtractAll, SetTopology}
use Rattle.mg_model.specs.declared.commands.Place.{Place}
use Rattle.mg_model.specs.declared.commands.Place.TheVariants.{NullContext, Context}
use Rattle.mg_model.specs.declared.commands.RemoteOption.{RemoteOption}
use Rattle.mg_model.specs.declared.commands.RemoteOption.TheVariants.{NoneGiven, Peer}
use Rattle.mg_model.specs.declared.commands.Termination.{Termination}
use Rattle.mg_model.specs.declared.commands.Termination.TheVariants.{Line, Ephemeral}
use Rattle.mg_model.specs.Updates.{with_at}

-- the names that commands may use: contexts, and ephemerals
pub record Names : Type 0 where
  pub contexts : ℕ → Bool
  pub ephemerals : ℕ → Bool

abbrev pub place_known : Names → Place → Bool
place_known names NullContext = true
place_known names (Context j) = names.contexts j

abbrev pub termination_known : Names → Termination → Bool
termination_known names (Line i) = true
termination_known names (Ephemeral k) = names.ephemerals k

abbrev pub remote_option_known : Names → Option RemoteOption → Bool
remote_option_known names None = true
remote_option_known names (Some NoneGiven) = true
remote_option_known names (Some (Peer k)) = names.ephemerals k

-- whether each name that the command uses is known
abbrev pub uses_known : Names → Command → Bool
uses_known names (AddLine create j i options) = create || names.contexts j
uses_known names (AddEphemeral create j k options) =
    (create || names.contexts j) && remote_option_known names options.remote
uses_known names (ModifyLine place i options) = place_known names place
uses_known names (ModifyEphemeral place k options) =
    place_known names place && names.ephemerals k && remote_option_known names options.remote
uses_known names (MoveLine j i options) = names.contexts j
uses_known names (MoveEphemeral j k options) =
    names.contexts j && names.ephemerals k && remote_option_known names options.remote
uses_known names (Subtract j t) = names.contexts j && termination_known names t
uses_known names (SubtractAll j) = names.contexts j
uses_known names (SetTopology j t u topology) =
    names.contexts j && termination_known names t && termination_known names u

-- the context and the ephemeral that a command creates
abbrev pub created_context : Command → Option ℕ
created_context (AddLine create j i options) = if create then Some j else None
created_context (AddEphemeral create j k options) = if create then Some j else None
created_context _ = None

abbrev pub created_ephemeral : Command → Option ℕ
created_ephemeral (AddEphemeral create j k options) = Some k
created_ephemeral _ = None

abbrev pub with_name : (ℕ → Bool) → Option ℕ → ℕ → Bool
with_name known None = known
with_name known (Some i) = with_at known i true

-- the names known after a command that was kept
abbrev pub names_after : Names → Command → Names
names_after names command = record {
  contexts = with_name names.contexts (created_context command);
  ephemerals = with_name names.ephemerals (created_ephemeral command);
}

-- the request that is built of commands where these names are known
abbrev pub built : Names → List Command → List Command
built names [] = []
built names (command ∷ more) =
    if uses_known names command then command ∷ built (names_after names command) more else built names more

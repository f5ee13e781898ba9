-- When a command is legal in a configuration, and what it makes of it. Written from the command, apart from the
-- gateway's rules over identifiers. A reader should check each command against H.248.1 section 7.2: what it asks of the
-- context, of the place of its termination and of a Remote, and what it changes.
use Rattle.std.specs.Prelude.{ℕ, ◌==◌, Bool, true, false, not, ◌&&◌, ◌||◌, if◌then◌else◌, Option, Some, None, unwrap_or}
use Rattle.mg_names.specs.declared.modes.Mode.TheVariants.{Inactive}
use Rattle.mg_names.specs.declared.topologies.Topology.{Topology}
use Rattle.mg_names.specs.declared.topologies.Topology.TheVariants.{Isolate, Oneway, Bothway}
use Rattle.mg_names.specs.declared.context_values.ContextValue.TheVariants.{Free, Live}
use Rattle.mg_model.specs.declared.commands.Command.{Command}
use Rattle.mg_model.specs.declared.commands.Command.TheVariants.{AddLine, AddEphemeral, ModifyLine, ModifyEphemeral, MoveLine, MoveEphemeral, Subtract, SubtractAll, SetTopology}
use Rattle.mg_model.specs.declared.commands.EphemeralOptions.{EphemeralOptions}
use Rattle.mg_model.specs.declared.commands.LineOptions.{LineOptions}
use Rattle.mg_model.specs.declared.commands.EventsName.TheVariants.{Empty}
use Rattle.mg_model.specs.declared.commands.SignalsName.{SignalsName}
use Rattle.mg_model.specs.declared.commands.Place.{Place}
use Rattle.mg_model.specs.declared.commands.Place.TheVariants.{NullContext, Context}
use Rattle.mg_model.specs.declared.commands.RemoteOption.{RemoteOption}
use Rattle.mg_model.specs.declared.commands.RemoteOption.TheVariants.{NoneGiven, Peer}
use Rattle.mg_model.specs.declared.commands.Termination.{Termination}
use Rattle.mg_model.specs.declared.commands.Termination.TheVariants.{Line, Ephemeral}
use Rattle.mg_model.specs.declared.components.Spot.{Spot}
use Rattle.mg_model.specs.declared.components.Spot.TheVariants.{Absent, Null, In}
use Rattle.mg_model.specs.declared.components.Remote.{Remote}
use Rattle.mg_model.specs.declared.components.Remote.TheVariants.{Unset, Gone, To}
use Rattle.mg_model.specs.Script.{Script}
use Rattle.mg_model.specs.Tables.{signals_of, is_empty}
use Rattle.mg_model.specs.Updates.{with_at}
use Rattle.mg_model.specs.Configuration.{Configuration, is_same, is_in, is_null, is_present, is_live, with_of, settled}

-- the place names an existing context, or the null context
abbrev pub place_exists : Configuration → Place → Bool
place_exists c NullContext = true
place_exists c (Context j) = is_live (c.context j)

abbrev pub stands_at : Spot → Place → Bool
stands_at spot NullContext = is_null spot
stands_at spot (Context j) = is_in spot j

-- a Remote may be set to an ephemeral that exists
abbrev pub remote_legal : Configuration → Option RemoteOption → Bool
remote_legal c None = true
remote_legal c (Some NoneGiven) = true
remote_legal c (Some (Peer k)) = is_present (c.spot (Ephemeral k))

-- it stands in a context that is neither the null context nor this one
abbrev pub is_elsewhere : Spot → ℕ → Bool
is_elsewhere Absent j = false
is_elsewhere Null j = false
is_elsewhere (In i) j = not (i == j)

abbrev pub is_legal : Configuration → Command → Bool
is_legal c (AddLine create j i options) = (create || is_live (c.context j)) && is_null (c.spot (Line i))
is_legal c (AddEphemeral create j k options) = (create || is_live (c.context j)) && remote_legal c options.remote
is_legal c (ModifyLine place i options) = place_exists c place && stands_at (c.spot (Line i)) place
is_legal c (ModifyEphemeral place k options) =
    place_exists c place && stands_at (c.spot (Ephemeral k)) place && remote_legal c options.remote
is_legal c (MoveLine j i options) = is_live (c.context j) && is_elsewhere (c.spot (Line i)) j
is_legal c (MoveEphemeral j k options) =
    is_live (c.context j) && is_elsewhere (c.spot (Ephemeral k)) j && remote_legal c options.remote
is_legal c (Subtract j t) = is_live (c.context j) && is_in (c.spot t) j
is_legal c (SubtractAll j) = is_live (c.context j)
is_legal c (SetTopology j t u topology) =
    is_live (c.context j) && is_in (c.spot t) j && is_in (c.spot u) j && not (is_same t u)

abbrev pub remote_set : Option RemoteOption → Remote → Remote
remote_set None was = was
remote_set (Some NoneGiven) was = Unset
remote_set (Some (Peer k)) was = To k

-- whether a line may play once a Signals descriptor is processed: exactly where its list is not empty
abbrev pub plays_after : Script → Option SignalsName → Bool → Bool
plays_after script None was = was
plays_after script (Some signals) was = not (is_empty (signals_of script signals))

-- what a command sets on a line; what it leaves out stays
abbrev pub with_line_options : Script → Configuration → ℕ → LineOptions → Configuration
with_line_options script c i options = record c {
  mode = with_of c.mode (Line i) (unwrap_or options.mode (c.mode (Line i)));
  events = with_at c.events i (unwrap_or options.events (c.events i));
  plays = with_at c.plays i (plays_after script options.signals (c.plays i));
}

abbrev pub with_ephemeral_options : Configuration → ℕ → EphemeralOptions → Configuration
with_ephemeral_options c k options = record c {
  mode = with_of c.mode (Ephemeral k) (unwrap_or options.mode (c.mode (Ephemeral k)));
  remote = with_at c.remote k (remote_set options.remote (c.remote k));
}

-- what was set for a termination's pairs is forgotten when it leaves its context
abbrev pub without_cuts_of : (Termination → Bool) → (Termination → Termination → Bool) → Termination → Termination → Bool
without_cuts_of leaves cut t u = if leaves t || leaves u then false else cut t u

-- a termination now stands in context j, which exists
abbrev pub put_in : Configuration → Termination → ℕ → Configuration
put_in c t j = settled (record c { spot = with_of c.spot t (In j); context = with_at c.context j Live })

-- the place of a termination that is subtracted: a line returns to the null context, an ephemeral is destroyed
abbrev pub spot_after : Termination → Spot
spot_after (Line i) = Null
spot_after (Ephemeral k) = Absent

-- a Remote that named an ephemeral which is destroyed names nothing
abbrev pub remote_after : (Termination → Bool) → ℕ → Remote → Remote
remote_after leaves k Unset = Unset
remote_after leaves k Gone = if leaves (Ephemeral k) then Unset else Gone
remote_after leaves k (To i) =
    if leaves (Ephemeral k) then Unset else (if leaves (Ephemeral i) then Gone else To i)

-- these terminations are subtracted from their context: lines become Inactive and silent with an empty events list,
-- ephemerals are no more
abbrev pub without_terminations : Configuration → (Termination → Bool) → Configuration
without_terminations c leaves = record c {
  spot = λ t. if leaves t then spot_after t else c.spot t;
  mode = λ t. if leaves t then Inactive else c.mode t;
  events = λ i. if leaves (Line i) then Empty else c.events i;
  plays = λ i. if leaves (Line i) then false else c.plays i;
  remote = λ k. remote_after leaves k (c.remote k);
  cut = without_cuts_of leaves c.cut;
}

-- isolate cuts both ways; oneway lets the second receive from the first and not the reverse; bothway frees both
abbrev pub cuts_forward : Topology → Bool
cuts_forward Isolate = true
cuts_forward Oneway = false
cuts_forward Bothway = false

abbrev pub cuts_backward : Topology → Bool
cuts_backward Isolate = true
cuts_backward Oneway = true
cuts_backward Bothway = false

abbrev pub with_pair : (Termination → Termination → Bool) → Termination → Termination → Bool → Termination → Termination → Bool
with_pair cut t u v = λ x y. if is_same x t && is_same y u then v else cut x y

-- the configuration after a command that is legal; the created names are free or absent before it
abbrev pub effect : Script → Configuration → Command → Configuration
effect script c (AddLine create j i options) = with_line_options script (put_in c (Line i) j) i options
effect script c (AddEphemeral create j k options) = with_ephemeral_options (put_in c (Ephemeral k) j) k options
effect script c (ModifyLine place i options) = with_line_options script c i options
effect script c (ModifyEphemeral place k options) = with_ephemeral_options c k options
effect script c (MoveLine j i options) =
    with_line_options script (put_in (record c { cut = without_cuts_of (is_same (Line i)) c.cut }) (Line i) j) i options
effect script c (MoveEphemeral j k options) =
    with_ephemeral_options (put_in (record c { cut = without_cuts_of (is_same (Ephemeral k)) c.cut }) (Ephemeral k) j) k options
effect script c (Subtract j t) = settled (without_terminations c (is_same t))
effect script c (SubtractAll j) =
    settled (record (without_terminations c (λ t. is_in (c.spot t) j)) { context = with_at c.context j Free })
effect script c (SetTopology j t u topology) =
    record c { cut = with_pair (with_pair c.cut t u (cuts_forward topology)) u t (cuts_backward topology) }

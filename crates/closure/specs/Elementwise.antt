-- Words for what one turn of a loop does. No public clause speaks of them.
use Rattle.std.specs.Prelude.{ℕ, false, List, [], ◌∷◌, if◌then◌else◌, Option, unwrap_or}
use Rattle.mg_names.specs.declared.topologies.Topology.{Topology}
use Rattle.mg_model.specs.declared.commands.EventsName.{EventsName}
use Rattle.mg_model.specs.declared.commands.SignalsName.{SignalsName}
use Rattle.mg_model.specs.declared.commands.RemoteOption.{RemoteOption}
use Rattle.mg_model.specs.declared.commands.Termination.{Termination}
use Rattle.mg_model.specs.declared.components.Remote.{Remote}
use Rattle.mg_model.specs.declared.components.Remote.TheVariants.{Unset, Gone}
use Rattle.mg_model.specs.declared.components.Spot.TheVariants.{Absent, Null}
use Rattle.mg_model.specs.declared.commands.EventsName.TheVariants.{Empty}
use Rattle.mg_model.specs.declared.commands.Termination.TheVariants.{Line, Ephemeral}
use Rattle.mg_names.specs.declared.modes.Mode.{Mode}
use Rattle.mg_names.specs.declared.modes.Mode.TheVariants.{Inactive}
use Rattle.mg_model.specs.Script.{Script}
use Rattle.mg_model.specs.Configuration.{Configuration, with_of, value_of, stands_in, is_to, is_in, is_same}
use Rattle.mg_model.specs.Updates.{with_at}
use Rattle.mg_model.specs.Effects.{with_pair, cuts_forward, cuts_backward, without_terminations, plays_after, remote_set}

-- one context name says what the places of the terminations make it
abbrev pub settled_at : Configuration → ℕ → Configuration
settled_at c j = record c { context = with_at c.context j (value_of (c.context j) (stands_in c.spot j)) }

-- a pair is cut neither way
abbrev pub forget_pair : Configuration → Termination → Termination → Configuration
forget_pair c t u = record c { cut = with_pair (with_pair c.cut t u false) u t false }

-- the same for each of these, in turn
abbrev pub forget_pairs : Configuration → Termination → List Termination → Configuration
forget_pairs c t [] = c
forget_pairs c t (u ∷ us) = forget_pairs (forget_pair c t u) t us

-- a Remote that named an ephemeral names nothing
abbrev pub remote_lost : ℕ → Remote → Remote
remote_lost k remote = if is_to remote k then Gone else remote

abbrev pub lost_at : ℕ → Configuration → ℕ → Configuration
lost_at k c other = record c { remote = with_at c.remote other (remote_lost k (c.remote other)) }

-- the Remotes that named an ephemeral name nothing
abbrev pub without_remotes_to : ℕ → Configuration → Configuration
without_remotes_to k c = record c { remote = λ other. remote_lost k (c.remote other) }

-- what a Topology descriptor says of a pair is set
abbrev pub with_topology : Configuration → Termination → Termination → Topology → Configuration
with_topology c t u topology =
    record c { cut = with_pair (with_pair c.cut t u (cuts_forward topology)) u t (cuts_backward topology) }

-- a line is in the null context, Inactive, silent, with an empty list
abbrev pub without_line : ℕ → Configuration → Configuration
without_line i c = record c {
  spot = with_of c.spot (Line i) Null;
  mode = with_of c.mode (Line i) Inactive;
  events = with_at c.events i Empty;
  plays = with_at c.plays i false;
}

-- an ephemeral is absent, Inactive, with no Remote
abbrev pub without_ephemeral : ℕ → Configuration → Configuration
without_ephemeral k c = record c {
  spot = with_of c.spot (Ephemeral k) Absent;
  mode = with_of c.mode (Ephemeral k) Inactive;
  remote = with_at c.remote k Unset;
}

-- a termination is subtracted if it stands in context j
abbrev pub subtracted_from : ℕ → Configuration → Termination → Configuration
subtracted_from j c t = if is_in (c.spot t) j then without_terminations c (is_same t) else c

abbrev pub subtracted_each : ℕ → Configuration → List Termination → Configuration
subtracted_each j c [] = c
subtracted_each j c (t ∷ ts) = subtracted_each j (subtracted_from j c t) ts

-- one of the options of a command; what isn't given stays
abbrev pub with_mode_option : Configuration → Termination → Option Mode → Configuration
with_mode_option c t mode = record c { mode = with_of c.mode t (unwrap_or mode (c.mode t)) }

abbrev pub with_events_option : Configuration → ℕ → Option EventsName → Configuration
with_events_option c i events = record c { events = with_at c.events i (unwrap_or events (c.events i)) }

abbrev pub with_signals_option : Script → Configuration → ℕ → Option SignalsName → Configuration
with_signals_option script c i signals = record c { plays = with_at c.plays i (plays_after script signals (c.plays i)) }

abbrev pub with_remote_option : Configuration → ℕ → Option RemoteOption → Configuration
with_remote_option c k remote = record c { remote = with_at c.remote k (remote_set remote (c.remote k)) }

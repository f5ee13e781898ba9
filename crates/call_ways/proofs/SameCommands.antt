-- Two commands that compare alike are one command.
use denote.Enum.Bare.{same_true}
use Rattle.std.proofs.Common.{◌≡◌, Bool, true, false, Option, None, Some, refl, ap, rules}
use Rattle.std.specs.Option.{option_eq}
use Rattle.std.proofs.lemmas.Bool.{and_parts, eqb-true}
use Rattle.mg_names.specs.contracts.modes.Mode.{the_type as of_modes}
use Rattle.mg_names.specs.contracts.modes.ModePartialEq.TheImpl.{eq-value as modes}
use Rattle.mg_names.specs.contracts.topologies.Topology.{the_type as of_topologies}
use Rattle.mg_names.specs.contracts.topologies.TopologyPartialEq.TheImpl.{eq-value as topologies}
use Rattle.mg_names.specs.declared.modes.Mode.{Mode}
use Rattle.mg_names.specs.declared.topologies.Topology.{Topology}
use Rattle.mg_model.specs.contracts.commands.CommandEq.TheImpl.Laws.{laws-law}
use Rattle.mg_model.specs.contracts.commands.CommandPartialEq.TheImpl.{eq-value as commands}
use Rattle.mg_model.specs.contracts.commands.EphemeralOptionsPartialEq.TheImpl.{eq-value as ephemeral_options}
use Rattle.mg_model.specs.contracts.commands.EventsNamePartialEq.TheImpl.{eq-value as events_names}
use Rattle.mg_model.specs.contracts.commands.LineOptionsPartialEq.TheImpl.{eq-value as line_options}
use Rattle.mg_model.specs.contracts.commands.PlacePartialEq.TheImpl.{eq-value as places}
use Rattle.mg_model.specs.contracts.commands.RemoteOptionPartialEq.TheImpl.{eq-value as remote_options}
use Rattle.mg_model.specs.contracts.commands.SignalsNamePartialEq.TheImpl.{eq-value as signals_names}
use Rattle.mg_model.specs.contracts.commands.TerminationPartialEq.TheImpl.{eq-value as terminations}
use Rattle.mg_model.specs.declared.commands.Command.{Command}
use Rattle.mg_model.specs.declared.commands.Command.TheVariants.{AddLine, AddEphemeral, ModifyLine, ModifyEphemeral, MoveLine, MoveEphemeral, Subtract, SubtractAll, SetTopology}
use Rattle.mg_model.specs.declared.commands.EphemeralOptions.{EphemeralOptions}
use Rattle.mg_model.specs.declared.commands.EventsName.{EventsName}
use Rattle.mg_model.specs.declared.commands.EventsName.TheVariants.{Empty, Armed, Own}
use Rattle.mg_model.specs.declared.commands.LineOptions.{LineOptions}
use Rattle.mg_model.specs.declared.commands.Place.{Place}
use Rattle.mg_model.specs.declared.commands.Place.TheVariants.{NullContext, Context}
use Rattle.mg_model.specs.declared.commands.RemoteOption.{RemoteOption}
use Rattle.mg_model.specs.declared.commands.RemoteOption.TheVariants.{NoneGiven, Peer}
use Rattle.mg_model.specs.declared.commands.SignalsName.{SignalsName}
use Rattle.mg_model.specs.declared.commands.SignalsName.TheVariants.{Silent, OwnSignals}
use Rattle.mg_model.specs.declared.commands.Termination.{Termination}
use Rattle.mg_model.specs.declared.commands.Termination.TheVariants.{Line, Ephemeral}

-- ---- words

same_mode : (a b : Mode) → modes.it a b ≡ true → a ≡ b
same_mode a b alike = same_true of_modes (search rules) a b alike

same_topology : (a b : Topology) → topologies.it a b ≡ true → a ≡ b
same_topology a b alike = same_true of_topologies (search rules) a b alike

-- ---- names

same_termination : (a b : Termination) → terminations.it a b ≡ true → a ≡ b
same_termination (Line i) (Line j) alike = ap Line (eqb-true i j alike)
same_termination (Ephemeral i) (Ephemeral j) alike = ap Ephemeral (eqb-true i j alike)
same_termination a b alike = cc

same_place : (a b : Place) → places.it a b ≡ true → a ≡ b
same_place NullContext NullContext alike = refl
same_place (Context i) (Context j) alike = ap Context (eqb-true i j alike)
same_place a b alike = cc

same_events_name : (a b : EventsName) → events_names.it a b ≡ true → a ≡ b
same_events_name Empty Empty alike = refl
same_events_name Armed Armed alike = refl
same_events_name (Own i) (Own j) alike = ap Own (eqb-true i j alike)
same_events_name a b alike = cc

same_signals_name : (a b : SignalsName) → signals_names.it a b ≡ true → a ≡ b
same_signals_name Silent Silent alike = refl
same_signals_name (OwnSignals i) (OwnSignals j) alike = ap OwnSignals (eqb-true i j alike)
same_signals_name a b alike = cc

same_remote_option : (a b : RemoteOption) → remote_options.it a b ≡ true → a ≡ b
same_remote_option NoneGiven NoneGiven alike = refl
same_remote_option (Peer i) (Peer j) alike = ap Peer (eqb-true i j alike)
same_remote_option a b alike = cc

-- ---- options

same_option : {X : Type 0} (E : X → X → Bool) → ((x y : X) → E x y ≡ true → x ≡ y) → (a b : Option X) → option_eq E a b ≡ true → a ≡ b
same_option E same None None alike = refl
same_option E same None (Some b) alike = cc
same_option E same (Some a) None alike = cc
same_option E same (Some a) (Some b) alike = ap Some (same a b alike)

same_line_options : (a b : LineOptions) → line_options.it a b ≡ true → a ≡ b
same_line_options a b alike =
    let one = and_parts _ _ alike in
    let two = and_parts _ _ one.1 in
    let mode = same_option modes.it same_mode a.mode b.mode one.0 in
    let events = same_option events_names.it same_events_name a.events b.events two.0 in
    let signals = same_option signals_names.it same_signals_name a.signals b.signals two.1 in
    λ i. record { mode = mode i; events = events i; signals = signals i }

same_ephemeral_options : (a b : EphemeralOptions) → ephemeral_options.it a b ≡ true → a ≡ b
same_ephemeral_options a b alike =
    let one = and_parts _ _ alike in
    let mode = same_option modes.it same_mode a.mode b.mode one.0 in
    let remote = same_option remote_options.it same_remote_option a.remote b.remote one.1 in
    λ i. record { mode = mode i; remote = remote i }

-- ---- commands

pub same_command : (a b : Command) → commands.it a b ≡ true → a ≡ b
same_command (AddLine true j i o) (AddLine true k l p) alike =
    let one = and_parts _ _ alike in
    let two = and_parts _ _ one.1 in
    let contexts : j ≡ k = eqb-true j k one.0 in
    let lines : i ≡ l = eqb-true i l two.0 in
    let options : o ≡ p = same_line_options o p two.1 in
    cc
same_command (AddLine false j i o) (AddLine false k l p) alike =
    let one = and_parts _ _ alike in
    let two = and_parts _ _ one.1 in
    let contexts : j ≡ k = eqb-true j k one.0 in
    let lines : i ≡ l = eqb-true i l two.0 in
    let options : o ≡ p = same_line_options o p two.1 in
    cc
same_command (AddEphemeral true j i o) (AddEphemeral true k l p) alike =
    let one = and_parts _ _ alike in
    let two = and_parts _ _ one.1 in
    let contexts : j ≡ k = eqb-true j k one.0 in
    let ephemerals : i ≡ l = eqb-true i l two.0 in
    let options : o ≡ p = same_ephemeral_options o p two.1 in
    cc
same_command (AddEphemeral false j i o) (AddEphemeral false k l p) alike =
    let one = and_parts _ _ alike in
    let two = and_parts _ _ one.1 in
    let contexts : j ≡ k = eqb-true j k one.0 in
    let ephemerals : i ≡ l = eqb-true i l two.0 in
    let options : o ≡ p = same_ephemeral_options o p two.1 in
    cc
same_command (ModifyLine j i o) (ModifyLine k l p) alike =
    let one = and_parts _ _ alike in
    let two = and_parts _ _ one.1 in
    let at : j ≡ k = same_place j k one.0 in
    let lines : i ≡ l = eqb-true i l two.0 in
    let options : o ≡ p = same_line_options o p two.1 in
    cc
same_command (ModifyEphemeral j i o) (ModifyEphemeral k l p) alike =
    let one = and_parts _ _ alike in
    let two = and_parts _ _ one.1 in
    let at : j ≡ k = same_place j k one.0 in
    let ephemerals : i ≡ l = eqb-true i l two.0 in
    let options : o ≡ p = same_ephemeral_options o p two.1 in
    cc
same_command (MoveLine j i o) (MoveLine k l p) alike =
    let one = and_parts _ _ alike in
    let two = and_parts _ _ one.1 in
    let contexts : j ≡ k = eqb-true j k one.0 in
    let lines : i ≡ l = eqb-true i l two.0 in
    let options : o ≡ p = same_line_options o p two.1 in
    cc
same_command (MoveEphemeral j i o) (MoveEphemeral k l p) alike =
    let one = and_parts _ _ alike in
    let two = and_parts _ _ one.1 in
    let contexts : j ≡ k = eqb-true j k one.0 in
    let ephemerals : i ≡ l = eqb-true i l two.0 in
    let options : o ≡ p = same_ephemeral_options o p two.1 in
    cc
same_command (Subtract j t) (Subtract k u) alike =
    let one = and_parts _ _ alike in
    let contexts : j ≡ k = eqb-true j k one.0 in
    let who : t ≡ u = same_termination t u one.1 in
    cc
same_command (SubtractAll j) (SubtractAll k) alike = ap SubtractAll (eqb-true j k alike)
same_command (SetTopology j t v o) (SetTopology k u w p) alike =
    let one = and_parts _ _ alike in
    let two = and_parts _ _ one.1 in
    let three = and_parts _ _ two.1 in
    let contexts : j ≡ k = eqb-true j k one.0 in
    let first : t ≡ u = same_termination t u two.0 in
    let second : v ≡ w = same_termination v w three.0 in
    let says : o ≡ p = same_topology o p three.1 in
    cc
same_command a b alike = cc

pub alike_itself : (a b : Command) → a ≡ b → commands.it a b ≡ true
alike_itself a b same = rw (← same) (laws-law.refl a)

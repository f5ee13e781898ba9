-- What a command makes, but for the question which contexts still exist, of all in the hull of some configurations.
use Rattle.std.proofs.Common.{◌≡◌, List, map, sym, subst}
use Rattle.mg_names.specs.declared.context_values.ContextValue.TheVariants.{Live}
use Rattle.mg_model.specs.declared.commands.Command.{Command}
use Rattle.mg_model.specs.declared.commands.Command.TheVariants.{AddLine, AddEphemeral, ModifyLine, ModifyEphemeral, MoveLine, MoveEphemeral, Subtract, SubtractAll, SetTopology}
use Rattle.mg_model.specs.declared.commands.Termination.TheVariants.{Line, Ephemeral}
use Rattle.mg_model.specs.declared.components.Spot.TheVariants.{In}
use Rattle.mg_model.specs.Script.{Script}
use Rattle.mg_model.specs.Configuration.{Configuration, is_same, with_of}
use Rattle.mg_model.specs.Effects.{cuts_backward, cuts_forward, with_ephemeral_options, with_line_options, with_pair, without_cuts_of}
use Rattle.mg_model.specs.Updates.{with_at}
use Rattle.closure.specs.Hulls.{IsInHull}
use Rattle.closure.specs.Emptying.{AreMade, GoesByComponent}
use Rattle.closure.specs.Placing.{unsettled}
use Rattle.closure.proofs.ByComponent.{ephemeral_by, line_by, hull_by, pair_by, placed_by, then_by, uncut_by, without_by}

-- ---- each command

pub hull_unsettled : (script : Script) (some : List Configuration) (c : Configuration) (command : Command) → GoesByComponent command → IsInHull some c
    → IsInHull (map (unsettled script command) some) (unsettled script command c)
hull_unsettled script some c (AddLine create j i options) goes inside =
    hull_by some (unsettled script (AddLine create j i options)) c
    (then_by (λ d. record d { spot = with_of d.spot (Line i) (In j); context = with_at d.context j Live }) (λ d. with_line_options script d i options)
    (placed_by (Line i) (In j) j Live) (line_by script i options)) inside
hull_unsettled script some c (AddEphemeral create j k options) goes inside =
    hull_by some (unsettled script (AddEphemeral create j k options)) c
    (then_by (λ d. record d { spot = with_of d.spot (Ephemeral k) (In j); context = with_at d.context j Live }) (λ d. with_ephemeral_options d k options)
    (placed_by (Ephemeral k) (In j) j Live) (ephemeral_by k options)) inside
hull_unsettled script some c (ModifyLine place i options) goes inside =
    hull_by some (unsettled script (ModifyLine place i options)) c (line_by script i options) inside
hull_unsettled script some c (ModifyEphemeral place k options) goes inside =
    hull_by some (unsettled script (ModifyEphemeral place k options)) c (ephemeral_by k options) inside
hull_unsettled script some c (MoveLine j i options) goes inside =
    hull_by some (unsettled script (MoveLine j i options)) c
    (then_by (λ d. record d { cut = without_cuts_of (is_same (Line i)) d.cut })
    (λ d. with_line_options script (record d { spot = with_of d.spot (Line i) (In j); context = with_at d.context j Live }) i options)
    (uncut_by (is_same (Line i)))
    (then_by (λ d. record d { spot = with_of d.spot (Line i) (In j); context = with_at d.context j Live }) (λ d. with_line_options script d i options)
    (placed_by (Line i) (In j) j Live) (line_by script i options))) inside
hull_unsettled script some c (MoveEphemeral j k options) goes inside =
    hull_by some (unsettled script (MoveEphemeral j k options)) c
    (then_by (λ d. record d { cut = without_cuts_of (is_same (Ephemeral k)) d.cut })
    (λ d. with_ephemeral_options (record d { spot = with_of d.spot (Ephemeral k) (In j); context = with_at d.context j Live }) k options)
    (uncut_by (is_same (Ephemeral k)))
    (then_by (λ d. record d { spot = with_of d.spot (Ephemeral k) (In j); context = with_at d.context j Live }) (λ d. with_ephemeral_options d k options)
    (placed_by (Ephemeral k) (In j) j Live) (ephemeral_by k options))) inside
hull_unsettled script some c (Subtract j t) goes inside =
    hull_by some (unsettled script (Subtract j t)) c (without_by (is_same t)) inside
hull_unsettled script some c (SubtractAll j) goes inside = absurd goes
hull_unsettled script some c (SetTopology j t u topology) goes inside =
    hull_by some (unsettled script (SetTopology j t u topology)) c
    (then_by (λ d. record d { cut = with_pair d.cut t u (cuts_forward topology) }) (λ d. record d { cut = with_pair d.cut u t (cuts_backward topology) })
    (pair_by t u (cuts_forward topology)) (pair_by u t (cuts_backward topology))) inside

pub each_made : (script : Script) (some : List Configuration) (command : Command) → GoesByComponent command → (made : List Configuration)
    → made ≡ map (unsettled script command) some → AreMade script some command made
each_made script some command goes made is c inside =
    subst (λ (ds : List Configuration). IsInHull ds (unsettled script command c)) (sym is) (hull_unsettled script some c command goes inside)

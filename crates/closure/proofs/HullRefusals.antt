-- A command that suits none of some configurations is legal in nothing in their hull.
use Rattle.std.proofs.Common.{◌≡◌, ◌∙◌, ◌&&◌, ◌||◌, Bool, true, false, not, List, refl, sym, ap, IsTrue, Contains}
use Rattle.mg_names.specs.declared.context_values.ContextValue.{ContextValue}
use Rattle.mg_model.specs.declared.commands.Command.{Command}
use Rattle.mg_model.specs.declared.commands.Command.TheVariants.{AddLine, AddEphemeral, ModifyLine, ModifyEphemeral, MoveLine, MoveEphemeral, Subtract, SubtractAll, SetTopology}
use Rattle.mg_model.specs.declared.commands.Termination.{Termination}
use Rattle.mg_model.specs.declared.commands.Termination.TheVariants.{Line, Ephemeral}
use Rattle.mg_model.specs.declared.components.Spot.{Spot}
use Rattle.mg_model.specs.Configuration.{Configuration, is_in, is_live, is_null, is_same}
use Rattle.mg_model.specs.Effects.{is_elsewhere, is_legal, place_exists, remote_legal, stands_at}
use Rattle.mg_model.proofs.Cases.{and_first, and_second, not_both}
use Rattle.closure.specs.Hulls.{IsInHull}
use Rattle.closure.specs.Refusals.{SuitsNone, suits}

legal_suits : (c : Configuration) (command : Command) → IsTrue (is_legal c command) → suits command c ≡ true
legal_suits c (AddLine create j i options) legal = and_second (create || is_live (c.context j)) (is_null (c.spot (Line i))) legal
legal_suits c (AddEphemeral create j k options) legal = refl
legal_suits c (ModifyLine place i options) legal = and_second (place_exists c place) (stands_at (c.spot (Line i)) place) legal
legal_suits c (ModifyEphemeral place k options) legal =
    and_second (place_exists c place) (stands_at (c.spot (Ephemeral k)) place)
    (and_first (place_exists c place && stands_at (c.spot (Ephemeral k)) place) (remote_legal c options.remote) legal)
legal_suits c (MoveLine j i options) legal = and_second (is_live (c.context j)) (is_elsewhere (c.spot (Line i)) j) legal
legal_suits c (MoveEphemeral j k options) legal =
    and_second (is_live (c.context j)) (is_elsewhere (c.spot (Ephemeral k)) j)
    (and_first (is_live (c.context j) && is_elsewhere (c.spot (Ephemeral k)) j) (remote_legal c options.remote) legal)
legal_suits c (Subtract j t) legal = and_second (is_live (c.context j)) (is_in (c.spot t) j) legal
legal_suits c (SubtractAll j) legal = legal
legal_suits c (SetTopology j t u topology) legal =
    and_second (is_live (c.context j)) (is_in (c.spot t) j)
    (and_first (is_live (c.context j) && is_in (c.spot t) j) (is_in (c.spot u) j)
    (and_first (is_live (c.context j) && is_in (c.spot t) j && is_in (c.spot u) j) (not (is_same t u)) legal))

module _ (some : List Configuration) (c : Configuration) (inside : IsInHull some c) where
  -- where it suits none, it suits nothing in their hull
  by_spot : (t : Termination) (test : Spot → Bool) → ((d : Configuration) → Contains some d → test (d.spot t) ≡ false) → test (c.spot t) ≡ false
  by_spot t test never = let at = inside.spot t in ap test (sym at.1.1) ∙ never at.0 at.1.0

  suits_nothing : (command : Command) → SuitsNone some command → suits command c ≡ false
  suits_nothing (AddLine create j i options) none = by_spot (Line i) is_null none
  suits_nothing (AddEphemeral create j k options) none = none inside.state.0 inside.state.1.0
  suits_nothing (ModifyLine place i options) none = by_spot (Line i) (λ spot. stands_at spot place) none
  suits_nothing (ModifyEphemeral place k options) none = by_spot (Ephemeral k) (λ spot. stands_at spot place) none
  suits_nothing (MoveLine j i options) none = by_spot (Line i) (λ spot. is_elsewhere spot j) none
  suits_nothing (MoveEphemeral j k options) none = by_spot (Ephemeral k) (λ spot. is_elsewhere spot j) none
  suits_nothing (Subtract j t) none = by_spot t (λ spot. is_in spot j) none
  suits_nothing (SubtractAll j) none = let at = inside.context j in ap (λ (v : ContextValue). is_live v) (sym at.1.1) ∙ none at.0 at.1.0
  suits_nothing (SetTopology j t u topology) none = by_spot t (λ spot. is_in spot j) none

  pub never_legal : (command : Command) → SuitsNone some command → IsTrue (is_legal c command) → ⊥
  never_legal command none legal = not_both (legal_suits c command legal) (suits_nothing command none)

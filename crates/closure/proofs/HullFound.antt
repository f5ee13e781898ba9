-- In what is in a hull and has a command legal its terminations stand where it finds them.
use Rattle.std.proofs.Common.{◌≡◌, ◌∙◌, ◌&&◌, Bool, true, false, not, if◌then◌else◌, List, map, refl, sym, ap, subst, IsTrue}
use Rattle.std.proofs.Math.Path.{fun_ext}
use Rattle.mg_model.specs.declared.commands.Command.{Command}
use Rattle.mg_model.specs.declared.commands.Command.TheVariants.{AddLine, AddEphemeral, ModifyLine, ModifyEphemeral, MoveLine, MoveEphemeral, Subtract, SubtractAll, SetTopology}
use Rattle.mg_model.specs.declared.commands.Place.{Place}
use Rattle.mg_model.specs.declared.commands.Place.TheVariants.{NullContext, Context}
use Rattle.mg_model.specs.declared.commands.Termination.{Termination}
use Rattle.mg_model.specs.declared.commands.Termination.TheVariants.{Line, Ephemeral}
use Rattle.mg_model.specs.declared.components.Spot.{Spot}
use Rattle.mg_model.specs.declared.components.Spot.TheVariants.{Absent, Null, In}
use Rattle.mg_model.specs.Configuration.{Configuration, is_in, is_live, is_same, with_of}
use Rattle.mg_model.specs.Effects.{is_legal, place_exists, remote_legal, stands_at}
use Rattle.mg_model.proofs.Cases.{and_first, and_second}
use Rattle.mg_model.proofs.Terminations.{is_in_is, is_same_is}
use Rattle.closure.specs.Found.{AreFound, found, spot_at}
use Rattle.closure.specs.Hulls.{IsInHull}
use Rattle.closure.proofs.ByComponent.{IsByComponent, hull_by, then_by, unchanged}

-- a termination stands somewhere
stood_by : (t : Termination) (spot : Spot) → IsByComponent (λ (d : Configuration). record d { spot = with_of d.spot t spot })
stood_by t spot = record {
  state = λ d e same. same;
  link = λ d e same. same;
  spot = λ u d e same. ap (λ (v : Spot). if is_same u t then spot else v) same;
  mode = λ u d e same. same;
  events = λ i d e same. same;
  plays = λ i d e same. same;
  context = λ j d e same. same;
  remote = λ k d e same. same;
  cut = λ u v d e same. same;
}

found_by : (command : Command) → IsByComponent (found command)
found_by (AddLine create j i options) = unchanged
found_by (AddEphemeral create j k options) = unchanged
found_by (ModifyLine place i options) = stood_by (Line i) (spot_at place)
found_by (ModifyEphemeral place k options) = stood_by (Ephemeral k) (spot_at place)
found_by (MoveLine j i options) = unchanged
found_by (MoveEphemeral j k options) = unchanged
found_by (Subtract j t) = unchanged
found_by (SubtractAll j) = unchanged
found_by (SetTopology j t u topology) =
    then_by (λ d. record d { spot = with_of d.spot t (In j) }) (λ d. record d { spot = with_of d.spot u (In j) }) (stood_by t (In j)) (stood_by u (In j))

stands_is : (spot : Spot) (place : Place) → stands_at spot place ≡ true → spot ≡ spot_at place
stands_is Null NullContext e = refl
stands_is Absent NullContext e = absurd (cc (e))
stands_is (In m) NullContext e = absurd (cc (e))
stands_is spot (Context j) e = is_in_is spot j e

-- a termination that is put where it stands
put_there : (spots : Termination → Spot) (t : Termination) (spot : Spot) → spots t ≡ spot → with_of spots t spot ≡ spots
put_there spots t spot is = fun_ext (λ u. by_test u (is_same u t) refl)
  where
    by_test : (u : Termination) (b : Bool) → is_same u t ≡ b → (if b then spot else spots u) ≡ spots u
    by_test u true same = sym is ∙ ap spots (sym (is_same_is u t same))
    by_test u false apart = refl

module _ (c : Configuration) where
  with_spots : (spots : Termination → Spot) → spots ≡ c.spot → record c { spot = spots } ≡ c
  with_spots spots same = ap (λ (f : Termination → Spot). record c { spot = f }) same

  found_there : (command : Command) → IsTrue (is_legal c command) → found command c ≡ c
  found_there (AddLine create j i options) legal = refl
  found_there (AddEphemeral create j k options) legal = refl
  found_there (ModifyLine place i options) legal =
      with_spots (with_of c.spot (Line i) (spot_at place)) (put_there c.spot (Line i) (spot_at place)
      (stands_is (c.spot (Line i)) place (and_second (place_exists c place) (stands_at (c.spot (Line i)) place) legal)))
  found_there (ModifyEphemeral place k options) legal =
      with_spots (with_of c.spot (Ephemeral k) (spot_at place)) (put_there c.spot (Ephemeral k) (spot_at place)
      (stands_is (c.spot (Ephemeral k)) place (and_second (place_exists c place) (stands_at (c.spot (Ephemeral k)) place)
      (and_first (place_exists c place && stands_at (c.spot (Ephemeral k)) place) (remote_legal c options.remote) legal))))
  found_there (MoveLine j i options) legal = refl
  found_there (MoveEphemeral j k options) legal = refl
  found_there (Subtract j t) legal = refl
  found_there (SubtractAll j) legal = refl
  found_there (SetTopology j t u topology) legal =
      let three = and_first (is_live (c.context j) && is_in (c.spot t) j && is_in (c.spot u) j) (not (is_same t u)) legal in
      let two = and_first (is_live (c.context j) && is_in (c.spot t) j) (is_in (c.spot u) j) three in
      let first : c.spot t ≡ In j = is_in_is (c.spot t) j (and_second (is_live (c.context j)) (is_in (c.spot t) j) two) in
      let second : c.spot u ≡ In j = is_in_is (c.spot u) j (and_second (is_live (c.context j) && is_in (c.spot t) j) (is_in (c.spot u) j) three) in
      with_spots (with_of (with_of c.spot t (In j)) u (In j))
      (ap (λ (f : Termination → Spot). with_of f u (In j)) (put_there c.spot t (In j) first) ∙ put_there c.spot u (In j) second)

pub all_found : (some : List Configuration) (command : Command) (made : List Configuration) → made ≡ map (found command) some → AreFound some command made
all_found some command made is c inside legal =
    subst (λ (ds : List Configuration). IsInHull ds c) (sym is)
    (subst (λ (d : Configuration). IsInHull (map (found command) some) d) (found_there c command legal) (hull_by some (found command) c (found_by command) inside))

-- What a legal command leaves is well formed.
use Rattle.std.proofs.Common.{◌≡◌, ◌∙◌, ℕ, ◌==◌, ◌&&◌, ◌||◌, Bool, true, false, if◌then◌else◌, Option, Some, None, refl, sym, ap, subst, IsTrue, not}
use Rattle.std.specs.Prelude.{unwrap_or}
use Rattle.std.proofs.lemmas.Bool.{eqb-true, true≢false}
use Rattle.mg_names.specs.declared.modes.Mode.TheVariants.{Inactive}
use Rattle.mg_model.specs.declared.commands.Command.{Command}
use Rattle.mg_model.specs.declared.commands.Command.TheVariants.{AddLine, AddEphemeral, ModifyLine, ModifyEphemeral, MoveLine, MoveEphemeral, Subtract, SubtractAll, SetTopology}
use Rattle.mg_model.specs.declared.commands.Place.{Place}
use Rattle.mg_model.specs.declared.commands.Place.TheVariants.{NullContext, Context}
use Rattle.mg_model.specs.declared.commands.RemoteOption.{RemoteOption}
use Rattle.mg_model.specs.declared.commands.RemoteOption.TheVariants.{NoneGiven, Peer}
use Rattle.mg_model.specs.declared.commands.Termination.{Termination}
use Rattle.mg_model.specs.declared.commands.Termination.TheVariants.{Line, Ephemeral}
use Rattle.mg_model.specs.declared.components.Spot.{Spot}
use Rattle.mg_model.specs.declared.components.Spot.TheVariants.{Absent}
use Rattle.mg_model.specs.declared.components.Remote.TheVariants.{Unset, To}
use Rattle.mg_model.specs.Script.{Script}
use Rattle.mg_model.specs.Configuration.{Configuration, IsWellFormed, is_in, is_live, is_null, is_present, is_same}
use Rattle.mg_model.specs.Effects.{cuts_backward, cuts_forward, effect, is_elsewhere, is_legal, place_exists, remote_legal, remote_set, stands_at}
use Rattle.mg_model.proofs.Cases.{and_first, and_second}
use Rattle.closure.specs.Placing.{AddsAbsent}
use Rattle.closure.proofs.GivenValues.{both_true, same_termination}
use Rattle.closure.proofs.FormedPlaces.{emptied_live, left_cut, left_live, left_mode, left_named, left_unset, moved_cut, null_nowhere, put_absent, put_cut, put_live, put_present, to_same}

absent_nowhere : (place : Place) → stands_at Absent place ≡ false
absent_nowhere NullContext = refl
absent_nowhere (Context j) = refl

module _ (script : Script) (c : Configuration) (formed : IsWellFormed c) where
  -- an ephemeral that stands somewhere isn't absent
  not_absent : (k n : ℕ) (place : Place) → IsTrue (stands_at (c.spot (Ephemeral k)) place) → (n == k) ≡ true → c.spot (Ephemeral n) ≡ Absent → ⊥
  not_absent k n place stands same absent =
      let here : c.spot (Ephemeral k) ≡ Absent = ap (λ (m : ℕ). c.spot (Ephemeral m)) (sym (eqb-true n k same)) ∙ absent in
      true≢false (sym stands ∙ ap (λ (spot : Spot). stands_at spot place) here ∙ absent_nowhere place)

  -- what is set of an ephemeral that stands somewhere is as it was of those that don't exist
  absent_kept : {A : Type 0} (value : ℕ → A) (none v : A) (k : ℕ) (place : Place) → IsTrue (stands_at (c.spot (Ephemeral k)) place)
      → ((n : ℕ) → c.spot (Ephemeral n) ≡ Absent → value n ≡ none)
      → (n : ℕ) → c.spot (Ephemeral n) ≡ Absent → (if n == k then v else value n) ≡ none
  absent_kept value none v k place stands was n absent = by_test (n == k) refl
    where
      by_test : (b : Bool) → (n == k) ≡ b → (if b then v else value n) ≡ none
      by_test true e = absurd (not_absent k n place stands e absent)
      by_test false e = was n absent

  -- a Remote that is set names what exists, if it is a name
  set_named : (option : Option RemoteOption) (k m : ℕ) → IsTrue (remote_legal c option) → remote_set option (c.remote k) ≡ To m
      → IsTrue (is_present (c.spot (Ephemeral m)))
  set_named None k m legal is = formed.named k m is
  set_named (Some NoneGiven) k m legal is = absurd (cc (is))
  set_named (Some (Peer n)) k m legal is = subst (λ (x : ℕ). IsTrue (is_present (c.spot (Ephemeral x)))) (to_same n m is) legal

  named_kept : (option : Option RemoteOption) (k : ℕ) → IsTrue (remote_legal c option) → (n m : ℕ)
      → (if n == k then remote_set option (c.remote k) else c.remote n) ≡ To m → IsTrue (is_present (c.spot (Ephemeral m)))
  named_kept option k legal n m = by_test (n == k)
    where
      by_test : (b : Bool) → (if b then remote_set option (c.remote k) else c.remote n) ≡ To m → IsTrue (is_present (c.spot (Ephemeral m)))
      by_test true is = set_named option k m legal is
      by_test false is = formed.named n m is

  -- a pair that is cut stands in one context
  cut_kept : (j : ℕ) (t u x y : Termination) (backward forward : Bool) → IsTrue (is_in (c.spot t) j) → IsTrue (is_in (c.spot u) j)
      → IsTrue (if is_same x u && is_same y t then backward else (if is_same x t && is_same y u then forward else c.cut x y))
      → (n : ℕ) × (IsTrue (is_in (c.spot x) n) × IsTrue (is_in (c.spot y) n))
  cut_kept j t u x y backward forward first second = by_test (is_same x u && is_same y t) (is_same x t && is_same y u) refl refl
    where
      both : (v w : Termination) → (is_same x v && is_same y w) ≡ true → IsTrue (is_in (c.spot v) j) → IsTrue (is_in (c.spot w) j)
          → (n : ℕ) × (IsTrue (is_in (c.spot x) n) × IsTrue (is_in (c.spot y) n))
      both v w same one other =
          let parts = both_true (is_same x v) (is_same y w) same in (
            j,
            (
              subst (λ (s : Termination). IsTrue (is_in (c.spot s) j)) (sym (same_termination x v parts.0)) one,
              subst (λ (s : Termination). IsTrue (is_in (c.spot s) j)) (sym (same_termination y w parts.1)) other,
            ),
          )

      by_test : (a b : Bool) → (is_same x u && is_same y t) ≡ a → (is_same x t && is_same y u) ≡ b
          → IsTrue (if a then backward else (if b then forward else c.cut x y))
          → (n : ℕ) × (IsTrue (is_in (c.spot x) n) × IsTrue (is_in (c.spot y) n))
      by_test true b here there is = both u t here second first
      by_test false true here there is = both t u there first second
      by_test false false here there is = formed.cut_within x y is

  pub formed_effect : (command : Command) → IsTrue (is_legal c command) → AddsAbsent c command → IsWellFormed (effect script c command)
  formed_effect (ModifyLine place i options) legal adds = record {
    live = formed.live;
    absent_mode = formed.absent_mode;
    absent_remote = formed.absent_remote;
    named = formed.named;
    cut_within = formed.cut_within;
  }
  formed_effect (ModifyEphemeral place k options) legal adds =
      let placed = and_first (place_exists c place && stands_at (c.spot (Ephemeral k)) place) (remote_legal c options.remote) legal in
      let stands : IsTrue (stands_at (c.spot (Ephemeral k)) place) = and_second (place_exists c place) (stands_at (c.spot (Ephemeral k)) place) placed in
      let may : IsTrue (remote_legal c options.remote) =
      and_second (place_exists c place && stands_at (c.spot (Ephemeral k)) place) (remote_legal c options.remote) legal in
      record {
        live = formed.live;
        absent_mode = absent_kept (λ n. c.mode (Ephemeral n)) Inactive (unwrap_or options.mode (c.mode (Ephemeral k))) k place stands formed.absent_mode;
        absent_remote = absent_kept c.remote Unset (remote_set options.remote (c.remote k)) k place stands formed.absent_remote;
        named = named_kept options.remote k may;
        cut_within = formed.cut_within;
      }
  formed_effect (SetTopology j t u topology) legal adds =
      let three = and_first (is_live (c.context j) && is_in (c.spot t) j && is_in (c.spot u) j) (not (is_same t u)) legal in
      let two = and_first (is_live (c.context j) && is_in (c.spot t) j) (is_in (c.spot u) j) three in
      let first : IsTrue (is_in (c.spot t) j) = and_second (is_live (c.context j)) (is_in (c.spot t) j) two in
      let second : IsTrue (is_in (c.spot u) j) = and_second (is_live (c.context j) && is_in (c.spot t) j) (is_in (c.spot u) j) three in
      record {
        live = formed.live;
        absent_mode = formed.absent_mode;
        absent_remote = formed.absent_remote;
        named = formed.named;
        cut_within = λ x y. cut_kept j t u x y (cuts_backward topology) (cuts_forward topology) first second;
      }
  formed_effect (AddLine create j i options) legal adds =
      let idle : IsTrue (is_null (c.spot (Line i))) = and_second (create || is_live (c.context j)) (is_null (c.spot (Line i))) legal in
      record {
        live = put_live c formed (Line i) j;
        absent_mode = formed.absent_mode;
        absent_remote = formed.absent_remote;
        named = formed.named;
        cut_within = put_cut c formed (Line i) j (null_nowhere (c.spot (Line i)) idle);
      }
  formed_effect (AddEphemeral create j k options) legal absent =
      let may : IsTrue (remote_legal c options.remote) = and_second (create || is_live (c.context j)) (remote_legal c options.remote) legal in
      record {
        live = put_live c formed (Ephemeral k) j;
        absent_mode = put_absent c (λ n. c.mode (Ephemeral n)) Inactive (unwrap_or options.mode (c.mode (Ephemeral k))) k j formed.absent_mode;
        absent_remote = put_absent c c.remote Unset (remote_set options.remote (c.remote k)) k j formed.absent_remote;
        named = λ n m is. put_present c k j m (named_kept options.remote k may n m is);
        cut_within = put_cut c formed (Ephemeral k) j (λ n. ap (λ (spot : Spot). is_in spot n) absent);
      }
  formed_effect (MoveLine j i options) legal adds = record {
    live = put_live c formed (Line i) j;
    absent_mode = formed.absent_mode;
    absent_remote = formed.absent_remote;
    named = formed.named;
    cut_within = moved_cut c formed (Line i) j;
  }
  formed_effect (MoveEphemeral j k options) legal adds =
      let may : IsTrue (remote_legal c options.remote) =
      and_second (is_live (c.context j) && is_elsewhere (c.spot (Ephemeral k)) j) (remote_legal c options.remote) legal in
      record {
        live = put_live c formed (Ephemeral k) j;
        absent_mode = put_absent c (λ n. c.mode (Ephemeral n)) Inactive (unwrap_or options.mode (c.mode (Ephemeral k))) k j formed.absent_mode;
        absent_remote = put_absent c c.remote Unset (remote_set options.remote (c.remote k)) k j formed.absent_remote;
        named = λ n m is. put_present c k j m (named_kept options.remote k may n m is);
        cut_within = moved_cut c formed (Ephemeral k) j;
      }
  formed_effect (Subtract j t) legal adds = record {
    live = left_live c formed (is_same t);
    absent_mode = left_mode c formed (is_same t);
    absent_remote = left_unset c formed (is_same t);
    named = left_named c formed (is_same t);
    cut_within = left_cut c formed (is_same t);
  }
  formed_effect (SubtractAll j) legal adds = record {
    live = emptied_live c formed j;
    absent_mode = left_mode c formed (λ t. is_in (c.spot t) j);
    absent_remote = left_unset c formed (λ t. is_in (c.spot t) j);
    named = left_named c formed (λ t. is_in (c.spot t) j);
    cut_within = left_cut c formed (λ t. is_in (c.spot t) j);
  }

-- The opening configuration is shown on lines that stand in the null context, where nothing is cut between them and no ephemeral exists that is owned.
use Rattle.mg_safety.proofs.Words.{◌≡◌, ◌∙◌, ℕ, Bool, true, false, Some, None, is_some, length, refl, sym, ap, ◌<◌, nat_lt, lt-ltb, TermId, Line, Eph, Empty}
use Rattle.mg_safety.proofs.Words.{Armed, Termination, Absent, Null, In, Board, exists, null_row, place_in, mode_in, is_present, Script, opening, IsSlot}
use Rattle.mg_safety.proofs.Words.{none_is_some, where_true, unused, EventsName, Resting, Configuration}
use Rattle.mg_model.specs.declared.commands.Termination.TheVariants as termination
use Rattle.mg_names.specs.declared.phases.LinkPhase.{LinkPhase}
use Rattle.mg_safety.proofs.Invariant.Shown.{Naming, term_of, row_on, cut_on, number_at, Seen}

-- lines, and nothing bound
abbrev pub lines_alone : (ℕ → ℕ) → Naming
lines_alone lines = record { lines = lines; contexts = λ j. None; ephemerals = λ k. None }

-- the lines of a call that opens
pub record AreCleared (script : Script) (owned : TermId → Bool) (b : Board) (lines : ℕ → ℕ) : Type 0 where
  pub rows : (i : ℕ) → i < length script.lines → b.row (Line (record { 0 = lines i })) ≡ Some null_row
  pub no_cut : (i j : ℕ) → i < length script.lines → j < length script.lines → b.cut (Line (record { 0 = lines i })) (Line (record { 0 = lines j })) ≡ false
  pub own : (i : ℕ) → i < length script.lines → owned (Line (record { 0 = lines i })) ≡ true
  pub once : (i j : ℕ) → i < length script.lines → j < length script.lines → lines i ≡ lines j → i ≡ j
  pub no_ephemeral : (x : ℕ) → owned (Eph x) ≡ true → exists b (Eph x) ≡ true → ⊥

pub events_armed : (script : Script) (i : ℕ) → i < length script.lines → (opening script).events i ≡ Armed
events_armed script i within = where_true (nat_lt i (length script.lines)) Armed Empty (lt-ltb i (length script.lines) within)

module _ (script : Script) (owned : TermId → Bool) (b : Board) (lines : ℕ → ℕ) (cleared : AreCleared script owned b lines) where
  abbrev names : Naming
  names = lines_alone lines

  -- so is every other configuration in which nothing is used
  module _ (state : ℕ) (link : LinkPhase) (list : EventsName) where
    abbrev c : Configuration
    c = unused (length script.lines) state link list

    spot_is : (i : ℕ) → i < length script.lines → c.spot (termination.Line i) ≡ Null
    spot_is i within = where_true (nat_lt i (length script.lines)) Null Absent (lt-ltb i (length script.lines) within)

    stands : (t : Termination) → IsSlot script t → is_some (row_on b (term_of names t)) ≡ is_present (c.spot t)
    stands (termination.Line i) within = ap is_some (cleared.rows i within) ∙ sym (ap is_present (spot_is i within))
    stands (termination.Ephemeral k) within = refl

    place : (t : Termination) → IsSlot script t → place_in (row_on b (term_of names t)) ≡ number_at names (c.spot t)
    place (termination.Line i) within = ap place_in (cleared.rows i within) ∙ sym (ap (number_at names) (spot_is i within))
    place (termination.Ephemeral k) within = refl

    in_none : (t : Termination) (j : ℕ) → IsSlot script t → c.spot t ≡ In j → ⊥
    in_none (termination.Line i) j within e = let apart : Null ≡ In j = sym (spot_is i within) ∙ e in cc
    in_none (termination.Ephemeral k) j within e = cc

    mode : (t : Termination) → IsSlot script t → c.mode t ≡ mode_in (row_on b (term_of names t))
    mode (termination.Line i) within = sym (ap mode_in (cleared.rows i within))
    mode (termination.Ephemeral k) within = refl

    cut : (t u : Termination) → IsSlot script t → IsSlot script u → c.cut t u ≡ cut_on b (term_of names t) (term_of names u)
    cut (termination.Line i) (termination.Line j) first second = sym (cleared.no_cut i j first second)
    cut (termination.Line i) (termination.Ephemeral k) first second = refl
    cut (termination.Ephemeral k) u first second = refl

    pub unused_shown : Seen script owned (lines_alone lines) b (unused (length script.lines) state link list)
    unused_shown = record {
      stands = stands;
      place = place;
      in_bound = λ t j slot e. absurd (in_none t j slot e);
      mode = mode;
      remote = λ k within. refl;
      cut = cut;
      bound = λ j. refl;
      line_stands = λ i within. ap is_some (cleared.rows i within);
      line_owned = cleared.own;
      line_once = cleared.once;
      context_number = λ j x e. absurd (none_is_some x e);
      context_once = λ i j x e other. absurd (none_is_some x e);
      members = λ v j x t slot at e standing. absurd (none_is_some x e);
      ephemeral_slot = λ k x e. absurd (none_is_some x e);
      ephemeral_stands = λ k x e. absurd (none_is_some x e);
      ephemeral_owned = λ k x e. absurd (none_is_some x e);
      ephemeral_once = λ k i x e other. absurd (none_is_some x e);
      ephemeral_named = λ x is standing. absurd (cleared.no_ephemeral x is standing);
    }

  pub opening_shown : Seen script owned (lines_alone lines) b (opening script)
  opening_shown = unused_shown script.start Resting Armed

-- Where a request has run the board can be settled: of each context it is decided whether someone stands in it, by the names of the call and by what was
-- used before.
use Rattle.std.proofs.Common.{◌≡◌, ◌∙◌, ◌<◌, ◌⊎◌, ℕ, Bool, true, false, not, length, Option, Some, None, is_some, refl, sym, ap, inl, inr}
use Rattle.std.specs.Prelude.{◌==◌, ◌||◌, ◌&&◌, unwrap_or}
use Rattle.std.proofs.lemmas.Bool.{eqb-true, eq-eqb, or_left}
use Rattle.mg_names.specs.declared.identifiers.TermId.{TermId}
use Rattle.mg_names.specs.declared.identifiers.TermId.TheVariants.{Line, Eph}
use Rattle.mg_model.specs.declared.commands.Termination.{Termination}
use Rattle.mg_model.specs.declared.commands.Termination.TheVariants as termination
use Rattle.mg_model.specs.declared.components.Spot.{Spot}
use Rattle.mg_model.specs.declared.components.Spot.TheVariants.{Absent, Null, In}
use Rattle.mg_model.specs.declared.rows.Row.{Row}
use Rattle.mg_model.specs.Accepted.{IsSlot}
use Rattle.mg_model.specs.Board.{Board, ContextExists, IsSettled, exists, place_of, place_in}
use Rattle.mg_model.specs.Configuration.{Configuration}
use Rattle.mg_model.specs.Gateway.{Gateway}
use Rattle.mg_model.specs.Numbers.{the_line}
use Rattle.mg_model.specs.Script.{Script}
use Rattle.mg_model.proofs.Cases.{false_not_true, not_both, some_of}
use Rattle.mg_safety.proofs.Events.Others.{created_only, name_owned}
use Rattle.mg_safety.proofs.GoingOn.Searching.{search_slots}
use Rattle.mg_safety.proofs.Invariant.Shown.{Naming, Shown, Seen, ChangesOwned, IsAccounted, eph_of, number_at, owned_at, row_on, term_of}
use Rattle.mg_safety.proofs.Invariant.Sound.{is_call, owner_of, owned_in}

abbrev place_by : Board → Naming → Termination → ℕ
place_by b n t = place_in (row_on b (term_of n t))

-- whoever stands by a name stands, and what has a name stands by it
there_by : (b : Board) (n : Naming) (t : Termination) (x : ℕ) → (x ≡ 0 → ⊥) → place_by b n t ≡ x → (u : TermId) × (place_of b u ≡ x)
there_by b n t x real at = go (term_of n t) refl
  where
    go : (o : Option TermId) → term_of n t ≡ o → (u : TermId) × (place_of b u ≡ x)
    go None is = absurd (real (sym at ∙ ap (λ (p : Option TermId). place_in (row_on b p)) is))
    go (Some u) is = (u, sym (ap (λ (p : Option TermId). place_in (row_on b p)) is) ∙ at)

place_of_term : (b : Board) (n : Naming) (t : Termination) (u : TermId) → term_of n t ≡ Some u → place_by b n t ≡ place_of b u
place_of_term b n t u e = ap (λ (p : Option TermId). place_in (row_on b p)) e

-- what stands in a context exists
stands_exists : (o : Option Row) (x : ℕ) → (x ≡ 0 → ⊥) → place_in o ≡ x → is_some o ≡ true
stands_exists None x real at = absurd (real (sym at))
stands_exists (Some row) x real at = refl

-- a test that says what was decided
holds : {P : Type 0} → P ⊎ (P → ⊥) → Bool
holds (inl is) = true
holds (inr never) = false

holds_onward : {P : Type 0} (d : P ⊎ (P → ⊥)) → holds d ≡ true → P
unfolding holds
holds_onward (inl is) e = is
holds_onward (inr never) e = absurd (false_not_true e)

holds_back : {P : Type 0} (d : P ⊎ (P → ⊥)) → P → holds d ≡ true
unfolding holds
holds_back (inl is) p = refl
holds_back (inr never) p = absurd (never p)

module _ (script : Script) (g : Gateway) (call : ℕ) (n e : Naming) (c d : Configuration) (last : Board) (seen : Seen script (owned_in g call) n g.board c)
    (also : Shown script (owned_at (owner_of g call) last) e last d) (changes : ChangesOwned (owner_of g call) g.board last) (accounted : IsAccounted g.board)
    (held_of : (l : ℕ) → is_call (g.holder l) call ≡ true → (i : ℕ) × (i < length script.lines) × (n.lines i ≡ l)) (lines : e.lines ≡ n.lines)
    (settled : IsSettled g.board g.board) where
  -- what the call owned it owns in the end
  owned_on : (u : TermId) → owned_in g call u ≡ true → owned_at (owner_of g call) last u ≡ true
  owned_on (Line l) own = own
  owned_on (Eph x) own =
      or_left (is_call (g.creator x) call) (last.used_ephemeral x && not (g.board.used_ephemeral x))
      (sym (created_only (is_call (g.creator x) call) (g.board.used_ephemeral x)) ∙ own)

  -- what it owns in the end and stood before had a name before
  slot_before : (u : TermId) (x : ℕ) → (x ≡ 0 → ⊥) → place_of g.board u ≡ x → owned_at (owner_of g call) last u ≡ true
      → (t : Termination) × IsSlot script t × (term_of n t ≡ Some u)
  slot_before (Line l) x real at own =
      let i = held_of l.0 own in (termination.Line i.0, i.1, ap (λ (k : ℕ). Some (Line (the_line k))) i.2)
  slot_before (Eph y) x real at own =
      let there : exists g.board (Eph y) ≡ true = stands_exists (g.board.row (Eph y)) x real at in
      let k = seen.ephemeral_named y
      (was (is_call (g.creator y) call) (last.used_ephemeral y) (g.board.used_ephemeral y) own (accounted.ephemerals y there)) there in
      (termination.Ephemeral k.0, seen.ephemeral_slot k.0 y k.1, ap eph_of k.1)
    where
      was : (created now before : Bool) → (created || (now && not before)) ≡ true → before ≡ true → (created || (before && not before)) ≡ true
      was true now before e given = refl
      was false true true e given = absurd (false_not_true e)
      was false false true e given = absurd (false_not_true e)
      was false now false e given = absurd (false_not_true given)

  -- what it owns in the end and stands has a name then
  slot_after : (u : TermId) (x : ℕ) → (x ≡ 0 → ⊥) → place_of last u ≡ x → owned_at (owner_of g call) last u ≡ true
      → (t : Termination) × IsSlot script t × (term_of e t ≡ Some u)
  slot_after (Line l) x real at own =
      let i = held_of l.0 own in
      (termination.Line i.0, i.1, ap (λ (k : ℕ). Some (Line (the_line k))) (ap (λ (of : ℕ → ℕ). of i.0) lines ∙ i.2))
  slot_after (Eph y) x real at own =
      let k = also.ephemeral_named y own (stands_exists (last.row (Eph y)) x real at) in
      (termination.Ephemeral k.0, also.ephemeral_slot k.0 y k.1, ap eph_of k.1)

  -- beside one of the call's stand only the call's
  beside : (x : ℕ) → (x ≡ 0 → ⊥) → (t : Termination) → IsSlot script t → place_by g.board n t ≡ x → (u : TermId) → place_of g.board u ≡ x
      → owned_in g call u ≡ true
  beside x real t slot stood u at = go (c.spot t) refl
    where
      place : (spot : Spot) → c.spot t ≡ spot → x ≡ number_at n spot
      place spot is = sym stood ∙ seen.place t slot ∙ ap (number_at n) is

      go : (spot : Spot) → c.spot t ≡ spot → owned_in g call u ≡ true
      go Absent is = absurd (real (place Absent is))
      go Null is = absurd (real (place Null is))
      go (In j) is =
          let bound = some_of (n.contexts j) (seen.in_bound t j slot is) in
          let here : x ≡ bound.0 = place (In j) is ∙ ap (λ (o : Option ℕ). unwrap_or o 0) bound.1 in
          let its = seen.members t j bound.0 u slot is bound.1 (at ∙ here) in
          name_owned script (owned_in g call) n seen.line_owned seen.ephemeral_owned its.0 its.1 u its.2

  -- whoever stands in a context in the end has a name of the call's, or stood there before
  either_stands : (x : ℕ) → (x ≡ 0 → ⊥) → (u : TermId) → place_of last u ≡ x
      → ((t : Termination) × IsSlot script t × (place_by last e t ≡ x)) ⊎ ((owned_at (owner_of g call) last u ≡ false) × (place_of g.board u ≡ x))
  either_stands x real u at = go (owned_at (owner_of g call) last u) refl
    where
      go : (test : Bool) → owned_at (owner_of g call) last u ≡ test
          → ((t : Termination) × IsSlot script t × (place_by last e t ≡ x)) ⊎ ((owned_at (owner_of g call) last u ≡ false) × (place_of g.board u ≡ x))
      go true own = let s = slot_after u x real at own in inl (s.0, s.1, place_of_term last e s.0 u s.2 ∙ at)
      go false other = inr (other, sym (ap place_in (changes.row u other)) ∙ at)

  stands : (x : ℕ) → ContextExists last x ⊎ (ContextExists last x → ⊥)
  stands x = by_null (x == 0) refl
    where
      no_name : ((t : Termination) → IsSlot script t → (place_by last e t == x) ≡ true → ⊥) → (t : Termination) × IsSlot script t × (place_by last e t ≡ x) → ⊥
      no_name none (t, slot, at) = none t slot (eq-eqb (place_by last e t) x at)

      -- nobody stands by a name; who stood there before is another's and stands there still, or was the call's and stood among its own
      by_owner : (x ≡ 0 → ⊥) → ((t : Termination) → IsSlot script t → (place_by last e t == x) ≡ true → ⊥) → (v : TermId) → place_of g.board v ≡ x
          → (test : Bool) → owned_at (owner_of g call) last v ≡ test → ContextExists last x ⊎ (ContextExists last x → ⊥)
      by_owner real none v stood false other = inl (real, (v, ap place_in (changes.row v other) ∙ stood))
      by_owner real none v stood true own =
          let s = slot_before v x real stood own in
          inr (λ there. elim (either_stands x real there.1.0 there.1.1) [
            | inl named ↦ no_name none named
            | inr before ↦ not_both (owned_on there.1.0 (beside x real s.0 s.1 (place_of_term g.board n s.0 v s.2 ∙ stood) there.1.0 before.1)) before.0
          ])

      by_used : (x ≡ 0 → ⊥) → ((t : Termination) → IsSlot script t → (place_by last e t == x) ≡ true → ⊥) → (test : Bool) → g.board.used_context x ≡ test
          → ContextExists last x ⊎ (ContextExists last x → ⊥)
      by_used real none true used =
          let was = (settled.contexts x).0 used in by_owner real none was.1.0 was.1.1 (owned_at (owner_of g call) last was.1.0) refl
      by_used real none false unused = inr (λ there. elim (either_stands x real there.1.0 there.1.1) [
        | inl named ↦ no_name none named
        | inr before ↦ not_both ((settled.contexts x).1 (real, (there.1.0, before.1))) unused
      ])

      by_null : (test : Bool) → (x == 0) ≡ test → ContextExists last x ⊎ (ContextExists last x → ⊥)
      by_null true null = inr (λ there. there.0 (eqb-true x 0 null))
      by_null false other = elim (search_slots script (λ t. place_by last e t == x)) [
        | inl found ↦ inl (real, there_by last e found.0 x real (eqb-true (place_by last e found.0) x found.2))
        | inr none ↦ by_used real none (g.board.used_context x) refl
      ]
        where
          real : x ≡ 0 → ⊥
          real is = not_both (eq-eqb x 0 is) other

  pub can_settle : (board : Board) × IsSettled last board
  can_settle = (
    record last { used_context = λ x. holds (stands x); used_ephemeral = λ k. exists last (Eph k) },
    record {
      row = refl;
      cut = refl;
      class = refl;
      contexts = λ x. (holds_onward (stands x), holds_back (stands x));
      ephemerals = λ k. refl;
    },
  )

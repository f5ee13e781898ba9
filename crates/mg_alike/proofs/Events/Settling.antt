-- Where a request has run the board can be settled: a context is used where a name of the call says that someone stands in it, or where it was used before and
-- was none of the call's.
use Rattle.std.proofs.Common.{◌≡◌, ◌∙◌, ◌<◌, ℕ, zero, suc, Bool, true, false, length, Option, Some, None, is_some, refl, sym, ap, arith, ◌==◌, ◌||◌, ◌&&◌, not}
use Rattle.std.proofs.Common.{unwrap_or}
use Rattle.mg_merge.proofs.Words.{Absent, Board, Configuration, ContextExists, Eph, Gateway, In, IsSettled, IsSlot, Line, Null, Row, Script, Spot, TermId}
use Rattle.mg_merge.proofs.Words.{Termination, and_first, and_from, and_second, denied, different, eq-eqb, eqb-true, exists, false_not_true, not_both, or_left}
use Rattle.mg_merge.proofs.Words.{or_right, place_in, place_of, some_of, the_line}
use Rattle.mg_model.specs.declared.commands.Termination.TheVariants as termination
use Rattle.mg_safety.proofs.Events.Others.{created_only, name_owned}
use Rattle.mg_safety.proofs.Invariant.Shown.{Naming, Shown, ChangesOwned, IsAccounted, eph_of, number_at, owned_at, row_on, term_of}
use Rattle.mg_safety.proofs.Invariant.Sound.{is_call, owner_of, owned_in}
use Rattle.mg_alike.proofs.Shared.Below.{any_below, any_there}

-- ---- by names

abbrev place_by : Board → Naming → Termination → ℕ
place_by b n t = place_in (row_on b (term_of n t))

abbrev someone_stands : Script → Naming → Board → ℕ → Bool
someone_stands script n b c =
    any_below (λ i. place_by b n (termination.Line i) == c) (length script.lines) || any_below (λ k. place_by b n (termination.Ephemeral k) == c) (length script.ephemerals)

-- a number below a bound that passes a test
pub found_below : (p : ℕ → Bool) (n : ℕ) → any_below p n ≡ true → (i : ℕ) × (i < n) × (p i ≡ true)
found_below p zero e = absurd (false_not_true e)
found_below p (suc n) e = go (p n) refl e (found_below p n)
  where
    go : (test : Bool) → p n ≡ test → (test || any_below p n) ≡ true → (any_below p n ≡ true → (i : ℕ) × (i < n) × (p i ≡ true)) → (i : ℕ) × (i < suc n) × (p i ≡ true)
    go true is e on = (n, omega arith, is)
    go false is e on = let it = on e in let less : it.0 < n = it.1 in (it.0, omega (arith, less), it.2)

stander : (script : Script) (n : Naming) (b : Board) (c : ℕ) → someone_stands script n b c ≡ true → (t : Termination) × IsSlot script t × (place_by b n t ≡ c)
stander script n b c e = go (any_below (λ i. place_by b n (termination.Line i) == c) (length script.lines)) refl e
  where
    go : (test : Bool) → any_below (λ i. place_by b n (termination.Line i) == c) (length script.lines) ≡ test
        → (test || any_below (λ k. place_by b n (termination.Ephemeral k) == c) (length script.ephemerals)) ≡ true → (t : Termination) × IsSlot script t × (place_by b n t ≡ c)
    go true is e =
        let it = found_below (λ i. place_by b n (termination.Line i) == c) (length script.lines) is in
        (termination.Line it.0, it.1, eqb-true (place_by b n (termination.Line it.0)) c it.2)
    go false is e =
        let it = found_below (λ k. place_by b n (termination.Ephemeral k) == c) (length script.ephemerals) e in
        (termination.Ephemeral it.0, it.1, eqb-true (place_by b n (termination.Ephemeral it.0)) c it.2)

stands_by : (script : Script) (n : Naming) (b : Board) (c : ℕ) (t : Termination) → IsSlot script t → place_by b n t ≡ c → someone_stands script n b c ≡ true
stands_by script n b c (termination.Line i) slot at =
    or_left (any_below (λ j. place_by b n (termination.Line j) == c) (length script.lines)) (any_below (λ k. place_by b n (termination.Ephemeral k) == c) (length script.ephemerals))
    (any_there (λ j. place_by b n (termination.Line j) == c) (length script.lines) i slot (eq-eqb (place_by b n (termination.Line i)) c at))
stands_by script n b c (termination.Ephemeral k) slot at =
    or_right (any_below (λ j. place_by b n (termination.Line j) == c) (length script.lines)) (any_below (λ j. place_by b n (termination.Ephemeral j) == c) (length script.ephemerals))
    (any_there (λ j. place_by b n (termination.Ephemeral j) == c) (length script.ephemerals) k slot (eq-eqb (place_by b n (termination.Ephemeral k)) c at))

-- whoever stands by a name stands
there_by : (b : Board) (n : Naming) (t : Termination) (c : ℕ) → (c ≡ 0 → ⊥) → place_by b n t ≡ c → (u : TermId) × (term_of n t ≡ Some u) × (place_of b u ≡ c)
there_by b n t c real at = go (term_of n t) refl
  where
    go : (o : Option TermId) → term_of n t ≡ o → (u : TermId) × (term_of n t ≡ Some u) × (place_of b u ≡ c)
    go None is = absurd (real (sym at ∙ ap (λ (p : Option TermId). place_in (row_on b p)) is))
    go (Some u) is = (u, is, sym (ap (λ (p : Option TermId). place_in (row_on b p)) is) ∙ at)

place_of_term : (b : Board) (n : Naming) (t : Termination) (u : TermId) → term_of n t ≡ Some u → place_by b n t ≡ place_of b u
place_of_term b n t u e = ap (λ (p : Option TermId). place_in (row_on b p)) e

-- what stands exists
stands_exists : (o : Option Row) (c : ℕ) → (c ≡ 0 → ⊥) → place_in o ≡ c → is_some o ≡ true
stands_exists None c real at = absurd (real (sym at))
stands_exists (Some row) c real at = refl

module _ (script : Script) (g : Gateway) (call : ℕ) (n e : Naming) (c d : Configuration) (last : Board) (shown : Shown script (owned_in g call) n g.board c)
    (also : Shown script (owned_at (owner_of g call) last) e last d) (changes : ChangesOwned (owner_of g call) g.board last) (accounted : IsAccounted g.board)
    (held_of : (l : ℕ) → is_call (g.holder l) call ≡ true → (i : ℕ) × (i < length script.lines) × (n.lines i ≡ l)) (lines : e.lines ≡ n.lines)
    (settled : IsSettled g.board g.board) where
  -- a slot that stands before is owned, and so in the end
  owned_on : (u : TermId) → owned_in g call u ≡ true → owned_at (owner_of g call) last u ≡ true
  owned_on (Line l) own = own
  owned_on (Eph x) own =
      or_left (is_call (g.creator x) call) (last.used_ephemeral x && not (g.board.used_ephemeral x))
      (sym (created_only (is_call (g.creator x) call) (g.board.used_ephemeral x)) ∙ own)

  -- what is owned in the end and stood before is named before
  slot_before : (u : TermId) (x : ℕ) → (x ≡ 0 → ⊥) → place_of g.board u ≡ x → owned_at (owner_of g call) last u ≡ true → (t : Termination) × IsSlot script t × (term_of n t ≡ Some u)
  slot_before (Line l) x real at own =
      let i = held_of l.0 own in (termination.Line i.0, i.1, ap (λ (k : ℕ). Some (Line (the_line k))) i.2)
  slot_before (Eph y) x real at own =
      let there : exists g.board (Eph y) ≡ true = stands_exists (g.board.row (Eph y)) x real at in
      let k = shown.ephemeral_named y (was (is_call (g.creator y) call) (last.used_ephemeral y) (g.board.used_ephemeral y) own (accounted.ephemerals y there)) there in
      (termination.Ephemeral k.0, shown.ephemeral_slot k.0 y k.1, ap eph_of k.1)
    where
      was : (created now before : Bool) → (created || (now && not before)) ≡ true → before ≡ true → (created || (before && not before)) ≡ true
      was true now before e given = refl
      was false true true e given = absurd (false_not_true e)
      was false false true e given = absurd (false_not_true e)
      was false now false e given = absurd (false_not_true given)

  slot_after : (u : TermId) (x : ℕ) → (x ≡ 0 → ⊥) → place_of last u ≡ x → owned_at (owner_of g call) last u ≡ true → (t : Termination) × IsSlot script t × (term_of e t ≡ Some u)
  slot_after (Line l) x real at own =
      let i = held_of l.0 own in
      (termination.Line i.0, i.1, ap (λ (k : ℕ). Some (Line (the_line k))) (ap (λ (of : ℕ → ℕ). of i.0) lines ∙ i.2))
  slot_after (Eph y) x real at own =
      let k = also.ephemeral_named y own (stands_exists (last.row (Eph y)) x real at) in
      (termination.Ephemeral k.0, also.ephemeral_slot k.0 y k.1, ap eph_of k.1)

  -- the context in which a slot stands before is named, so all who stand there are slots
  beside : (x : ℕ) → (x ≡ 0 → ⊥) → someone_stands script n g.board x ≡ true → (u : TermId) → place_of g.board u ≡ x → owned_in g call u ≡ true
  beside x real someone u at = go (c.spot s.0) refl
    where
      s : (t : Termination) × IsSlot script t × (place_by g.board n t ≡ x)
      s = stander script n g.board x someone

      stood : (spot : Spot) → c.spot s.0 ≡ spot → x ≡ number_at n spot
      stood spot is = sym s.2 ∙ shown.place s.0 s.1 ∙ ap (number_at n) is

      go : (spot : Spot) → c.spot s.0 ≡ spot → owned_in g call u ≡ true
      go Absent is = absurd (real (stood Absent is))
      go Null is = absurd (real (stood Null is))
      go (In j) is =
          let bound = some_of (n.contexts j) (shown.in_bound s.0 j s.1 is) in
          let here : x ≡ bound.0 = stood (In j) is ∙ ap (λ (o : Option ℕ). unwrap_or o 0) bound.1 in
          let its = shown.members j bound.0 u bound.1 (at ∙ here) in
          name_owned script (owned_in g call) n shown.line_owned shown.ephemeral_owned its.0 its.1 u its.2

  abbrev is_used : ℕ → Bool
  is_used x = not (x == 0) && (someone_stands script e last x || (g.board.used_context x && not (someone_stands script n g.board x)))

  pub board_settled : Board
  board_settled = record {
    row = last.row;
    cut = last.cut;
    used_context = λ x. not (x == 0) && (someone_stands script e last x || (g.board.used_context x && not (someone_stands script n g.board x)));
    used_ephemeral = λ k. exists last (Eph k);
    class = last.class;
  }

  not_null : (x : ℕ) → not (x == 0) ≡ true → x ≡ 0 → ⊥
  not_null x e zeroth = not_both (eq-eqb x 0 zeroth) (denied (x == 0) e)

  used_there : (x : ℕ) → is_used x ≡ true → ContextExists last x
  used_there x used = go (someone_stands script e last x) refl (and_second (not (x == 0)) _ used)
    where
      real : x ≡ 0 → ⊥
      real = not_null x (and_first (not (x == 0)) _ used)

      go : (test : Bool) → someone_stands script e last x ≡ test → (test || (g.board.used_context x && not (someone_stands script n g.board x))) ≡ true → ContextExists last x
      go true is holds =
          let s = stander script e last x is in let u = there_by last e s.0 x real s.2 in (real, (u.0, u.2))
      go false is holds =
          let none = denied (someone_stands script n g.board x) (and_second (g.board.used_context x) (not (someone_stands script n g.board x)) holds) in
          let there = (settled.contexts x).0 (and_first (g.board.used_context x) (not (someone_stands script n g.board x)) holds) in
          by_owner none there.1.0 there.1.1 (owned_at (owner_of g call) last there.1.0) refl
        where
          by_owner : someone_stands script n g.board x ≡ false → (u : TermId) → place_of g.board u ≡ x → (test : Bool) → owned_at (owner_of g call) last u ≡ test → ContextExists last x
          by_owner none u at true own =
              let s = slot_before u x real at own in
              absurd (not_both (stands_by script n g.board x s.0 s.1 (place_of_term g.board n s.0 u s.2 ∙ at)) none)
          by_owner none u at false other = (real, (u, ap place_in (changes.row u other) ∙ at))

  there_used : (x : ℕ) → ContextExists last x → is_used x ≡ true
  there_used x (real, (u, at)) =
      and_from (not (x == 0)) (someone_stands script e last x || (g.board.used_context x && not (someone_stands script n g.board x)))
      (ap not (different x 0 real)) (go (owned_at (owner_of g call) last u) refl)
    where
      go : (test : Bool) → owned_at (owner_of g call) last u ≡ test → (someone_stands script e last x || (g.board.used_context x && not (someone_stands script n g.board x))) ≡ true
      go true own =
          let s = slot_after u x real at own in
          or_left (someone_stands script e last x) (g.board.used_context x && not (someone_stands script n g.board x))
          (stands_by script e last x s.0 s.1 (place_of_term last e s.0 u s.2 ∙ at))
      go false other =
          let stood : place_of g.board u ≡ x = sym (ap place_in (changes.row u other)) ∙ at in
          or_right (someone_stands script e last x) (g.board.used_context x && not (someone_stands script n g.board x))
          (and_from (g.board.used_context x) (not (someone_stands script n g.board x)) ((settled.contexts x).1 (real, (u, stood)))
          (none (someone_stands script n g.board x) refl stood))
        where
          none : (test : Bool) → someone_stands script n g.board x ≡ test → place_of g.board u ≡ x → not test ≡ true
          none false is stood = refl
          none true is stood = absurd (not_both (owned_on u (beside x real is u stood)) other)

  pub is_settled : IsSettled last board_settled
  unfolding board_settled
  is_settled = record {
    row = refl;
    cut = refl;
    class = refl;
    contexts = λ x. (used_there x, there_used x);
    ephemerals = λ k. refl;
  }

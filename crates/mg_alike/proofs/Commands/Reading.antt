-- What is read of two boards that are alike: what exists, where it stands, and so the codes that refuse a command.
use Rattle.std.proofs.Common.{◌≡◌, ◌∙◌, ◌<◌, ℕ, Bool, true, Option, Some, None, is_some, refl, sym, ap, subst, arith, inl, inr, ◌==◌, ◌||◌, ◌↔◌, not}
use Rattle.mg_merge.proofs.Words.{AlreadyInContext, Applies, Board, Code, ContextExists, Eph, Ephemeral, InsufficientResources, InternalFailure, IsUsedUp}
use Rattle.mg_merge.proofs.Words.{LacksContext, Line, LineNo, NotInContext, Nothing, RemoteSetting, Row, TermId, UnknownContext, UnknownTermination, choose}
use Rattle.mg_merge.proofs.Words.{eq-eqb, eqb-true, exists, is_misplaced, is_taken, lacks_termination, mode_in, names_nothing, null, place_in, place_of}
use Rattle.mg_merge.proofs.Words.{remote_in, remote_refused, same_term, same_test, the_line}
use Rattle.mg_alike.proofs.Words.{BoardsAlike, IsRenaming, OptionalRowsAlike, PlacesAlike, RemotesAlike, Renaming, TermsAlike}
use Rattle.mg_alike.proofs.Commands.Twins.{Twin, add_line, add_ephemeral, modify, move, subtract, subtract_all, set_topology, one_of, other_of, SetRemotesAlike, TargetsAlike, IsTwin, InUse}

-- ---- rows

module _ (r : Renaming) where
  pub rows_exist : (t : TermId) (o p : Option Row) → OptionalRowsAlike r t o p → is_some p ≡ is_some o
  rows_exist t None None alike = refl
  rows_exist t (Some one) (Some other) alike = refl
  rows_exist t _ _ alike = absurd alike

  pub rows_place : (t : TermId) (o p : Option Row) → OptionalRowsAlike r t o p → PlacesAlike r (place_in o) (place_in p)
  rows_place t None None alike = inl (refl, refl)
  rows_place t (Some one) (Some other) alike = alike.place
  rows_place t _ _ alike = absurd alike

  pub rows_mode : (t : TermId) (o p : Option Row) → OptionalRowsAlike r t o p → mode_in p ≡ mode_in o
  rows_mode t None None alike = refl
  rows_mode t (Some one) (Some other) alike = alike.mode
  rows_mode t _ _ alike = absurd alike

  pub no_remote : (t : TermId) → RemotesAlike r t None None
  no_remote (Line l) = tt
  no_remote (Eph x) = tt

  pub rows_remote : (t : TermId) (o p : Option Row) → OptionalRowsAlike r t o p → RemotesAlike r t (remote_in o) (remote_in p)
  rows_remote t None None alike = no_remote t
  rows_remote t (Some one) (Some other) alike = alike.remote
  rows_remote t _ _ alike = absurd alike

-- ---- tests

pub both_or : (p q s t : Bool) → s ≡ p → t ≡ q → (s || t) ≡ (p || q)
both_or p q s t first second = ap (λ (x : Bool). x || t) first ∙ ap (λ (x : Bool). p || x) second

module _ (r : Renaming) (held : ℕ → Bool) (renaming : IsRenaming r) where
  pub same_term_same : (t u v x : TermId) → TermsAlike r held t u → TermsAlike r held v x → same_term u x ≡ same_term t v
  same_term_same (Line l) (Line m) (Line n) (Line o) first second =
      ap (λ (k : LineNo). k.0 == o.0) (sym first.0) ∙ ap (λ (k : LineNo). l.0 == k.0) (sym second.0)
  same_term_same (Line l) (Line m) (Eph n) (Eph o) first second = refl
  same_term_same (Eph l) (Eph m) (Line n) (Line o) first second = refl
  same_term_same (Eph l) (Eph m) (Eph n) (Eph o) first second = same_test (m == o) (l == n)
      (λ e. eq-eqb l n (renaming.ephemerals.back l n o (subst (λ (k : ℕ). r.ephemerals l k ≡ true) (eqb-true m o e) first) second))
      (λ e. eq-eqb m o (renaming.ephemerals.onward n m o (subst (λ (k : ℕ). r.ephemerals k m ≡ true) (eqb-true l n e) first) second))
  same_term_same (Line l) (Eph m) v x first second = absurd first
  same_term_same (Eph l) (Line m) v x first second = absurd first
  same_term_same _ _ _ _ first second = absurd second

  pub first_real : (c d : ℕ) → r.contexts c d ≡ true → c ≡ null → ⊥
  first_real c d is e = let above : 0 < c = (renaming.numbers c d is).0.0 in let none : c ≡ 0 = e in omega (arith, above, none)

  pub second_real : (c d : ℕ) → r.contexts c d ≡ true → d ≡ null → ⊥
  second_real c d is e = let above : 0 < d = (renaming.numbers c d is).1.0 in let none : d ≡ 0 = e in omega (arith, above, none)

  pub first_not_choose : (c d : ℕ) → r.contexts c d ≡ true → c ≡ choose → ⊥
  first_not_choose c d is e = let below : c < 4294967294 = (renaming.numbers c d is).0.1 in let one : c ≡ 4294967294 = e in omega (arith, below, one)

  pub second_not_choose : (c d : ℕ) → r.contexts c d ≡ true → d ≡ choose → ⊥
  second_not_choose c d is e = let below : d < 4294967294 = (renaming.numbers c d is).1.1 in let one : d ≡ 4294967294 = e in omega (arith, below, one)

  -- whether one stands in a context
  pub at_same : (p q c d : ℕ) → PlacesAlike r p q → PlacesAlike r c d → (q == d) ≡ (p == c)
  at_same p q c d (inl (p_null, q_null)) (inl (c_null, d_null)) = same_test (q == d) (p == c)
      (λ e. eq-eqb p c (p_null ∙ sym c_null)) (λ e. eq-eqb q d (q_null ∙ sym d_null))
  at_same p q c d (inl (p_null, q_null)) (inr is) = same_test (q == d) (p == c)
      (λ e. absurd (second_real c d is (sym (eqb-true q d e) ∙ q_null))) (λ e. absurd (first_real c d is (sym (eqb-true p c e) ∙ p_null)))
  at_same p q c d (inr is) (inl (c_null, d_null)) = same_test (q == d) (p == c)
      (λ e. absurd (second_real p q is (eqb-true q d e ∙ d_null))) (λ e. absurd (first_real p q is (eqb-true p c e ∙ c_null)))
  at_same p q c d (inr first) (inr second) = same_test (q == d) (p == c)
      (λ e. eq-eqb p c (renaming.contexts.back p c d (subst (λ (k : ℕ). r.contexts p k ≡ true) (eqb-true q d e) first) second))
      (λ e. eq-eqb q d (renaming.contexts.onward c q d (subst (λ (k : ℕ). r.contexts k q ≡ true) (eqb-true p c e) first) second))

  module _ (b m : Board) (alike : BoardsAlike r held b m) where
    pub exists_same : (t u : TermId) → TermsAlike r held t u → exists m u ≡ exists b t
    exists_same t u is = rows_exist r t (b.row t) (m.row u) (alike.rows t u is)

    pub place_alike : (t u : TermId) → TermsAlike r held t u → PlacesAlike r (place_of b t) (place_of m u)
    place_alike t u is = rows_place r t (b.row t) (m.row u) (alike.rows t u is)

    stands_same : (t u : TermId) → TermsAlike r held t u → (c d : ℕ) → PlacesAlike r c d → (place_of m u == d) ≡ (place_of b t == c)
    stands_same t u is c d context = at_same (place_of b t) (place_of m u) c d (place_alike t u is) context

    -- ---- 430

    nothing_same : (s z : Option RemoteSetting) → SetRemotesAlike r s z → names_nothing m z ≡ names_nothing b s
    nothing_same None None is = refl
    nothing_same (Some Nothing) (Some Nothing) is = refl
    nothing_same (Some (Ephemeral k)) (Some (Ephemeral i)) is = ap not (exists_same (Eph k) (Eph i) is)
    nothing_same _ _ is = absurd is

    refused_same : (t u : TermId) → TermsAlike r held t u → (s z : Option RemoteSetting) → SetRemotesAlike r s z → remote_refused m u z ≡ remote_refused b t s
    refused_same (Line l) (Line k) is None None also = refl
    refused_same (Line l) (Line k) is (Some s) (Some z) also = refl
    refused_same (Eph l) (Eph k) is s z also = nothing_same s z also
    refused_same (Line l) (Eph k) is s z also = absurd is
    refused_same (Eph l) (Line k) is s z also = absurd is
    refused_same _ _ is _ _ also = absurd also

    unknown_same : (t u : TermId) → TermsAlike r held t u → not (exists m u) ≡ not (exists b t)
    unknown_same t u is = ap not (exists_same t u is)

    lacks_same : (twin : Twin) → IsTwin r held twin → lacks_termination m (other_of twin) ≡ lacks_termination b (one_of twin)
    lacks_same (add_line c d l s z) is =
        both_or (not (exists b (Line (the_line l)))) (remote_refused b (Line (the_line l)) s.remote) (not (exists m (Line (the_line l)))) (remote_refused m (Line (the_line l)) z.remote)
        (unknown_same (Line (the_line l)) (Line (the_line l)) (refl, is.1))
        (refused_same (Line (the_line l)) (Line (the_line l)) (refl, is.1) s.remote z.remote is.2.remote)
    lacks_same (add_ephemeral c d s z) is = nothing_same s.remote z.remote is.1.remote
    lacks_same (modify c d t u s z) is =
        both_or (not (exists b t)) (remote_refused b t s.remote) (not (exists m u)) (remote_refused m u z.remote) (unknown_same t u is.1)
        (refused_same t u is.1 s.remote z.remote is.2.remote)
    lacks_same (move c d t u s z) is =
        both_or (not (exists b t)) (remote_refused b t s.remote) (not (exists m u)) (remote_refused m u z.remote) (unknown_same t u is.1)
        (refused_same t u is.1 s.remote z.remote is.2.remote)
    lacks_same (subtract c d t u) is = unknown_same t u is.1
    lacks_same (subtract_all c d) is = refl
    lacks_same (set_topology c d t u v x topology) is =
        both_or (not (exists b t)) (not (exists b v)) (not (exists m u)) (not (exists m x)) (unknown_same t u is.1) (unknown_same v x is.2)

    -- ---- 433 and 435

    taken_same : (twin : Twin) → IsTwin r held twin → is_taken m (other_of twin) ≡ is_taken b (one_of twin)
    taken_same (add_line c d l s z) is = ap not (stands_same (Line (the_line l)) (Line (the_line l)) (refl, is.1) null null (inl (refl, refl)))
    taken_same _ is = refl

    misplaced_same : (twin : Twin) → IsTwin r held twin → is_misplaced m (other_of twin) ≡ is_misplaced b (one_of twin)
    misplaced_same (modify c d t u s z) is = ap not (stands_same t u is.1 c d is.0)
    misplaced_same (move c d t u s z) is =
        both_or (place_of b t == null) (place_of b t == c) (place_of m u == null) (place_of m u == d) (stands_same t u is.1 null null (inl (refl, refl)))
        (stands_same t u is.1 c d (inr is.0))
    misplaced_same (subtract c d t u) is = ap not (stands_same t u is.1 c d (inr is.0))
    misplaced_same (set_topology c d t u v x topology) is =
        both_or (not (place_of b t == c)) (not (place_of b v == c) || same_term t v) (not (place_of m u == d)) (not (place_of m x == d) || same_term u x)
        (ap not (stands_same t u is.1 c d (inr is.0)))
        (both_or (not (place_of b v == c)) (same_term t v) (not (place_of m x == d)) (same_term u x)
        (ap not (stands_same v x is.2 c d (inr is.0))) (same_term_same t u v x is.1 is.2))
    misplaced_same _ is = refl

    -- ---- 411

    module _ (ready : InUse r held b m) where
      pub there_onward : (c d : ℕ) → r.contexts c d ≡ true → ContextExists b c → ContextExists m d
      there_onward c d is (real, (t, at)) =
          let u = ready.members c d is t at in
          elim (place_alike t u.0 u.1) [
            | inl none ↦ absurd (real (sym at ∙ none.0))
            | inr it ↦ (
              second_real c d is,
              (u.0, renaming.contexts.onward c (place_of m u.0) d (subst (λ (k : ℕ). r.contexts k (place_of m u.0) ≡ true) at it) is),
            )
          ]

      pub there_back : (c d : ℕ) → r.contexts c d ≡ true → ContextExists m d → ContextExists b c
      there_back c d is (real, (u, at)) =
          let t = ready.members_back c d is u at in
          elim (place_alike t.0 u t.1) [
            | inl none ↦ absurd (real (sym at ∙ none.1))
            | inr it ↦ (
              first_real c d is,
              (t.0, renaming.contexts.back (place_of b t.0) c d (subst (λ (k : ℕ). r.contexts (place_of b t.0) k ≡ true) at it) is),
            )
          ]

      context_same : (c d : ℕ) → r.contexts c d ≡ true → (ContextExists b c → ⊥) ↔ (ContextExists m d → ⊥)
      context_same c d is = ((λ none there. none (there_back c d is there)), (λ none there. none (there_onward c d is there)))

      target_same : (c d : ℕ) → TargetsAlike r c d
          → ((c ≡ choose → ⊥) × (ContextExists b c → ⊥)) ↔ ((d ≡ choose → ⊥) × (ContextExists m d → ⊥))
      target_same c d (inl (first, second)) = ((λ lacks. absurd (lacks.0 first)), (λ lacks. absurd (lacks.0 second)))
      target_same c d (inr is) = (
        (λ lacks. (second_not_choose c d is, (context_same c d is).0 lacks.1)),
        (λ lacks. (first_not_choose c d is, (context_same c d is).1 lacks.1)),
      )

      place_same : (c d : ℕ) → PlacesAlike r c d → ((c ≡ null → ⊥) × (ContextExists b c → ⊥)) ↔ ((d ≡ null → ⊥) × (ContextExists m d → ⊥))
      place_same c d (inl (first, second)) = ((λ lacks. absurd (lacks.0 first)), (λ lacks. absurd (lacks.0 second)))
      place_same c d (inr is) = (
        (λ lacks. (second_real c d is, (context_same c d is).0 lacks.1)),
        (λ lacks. (first_real c d is, (context_same c d is).1 lacks.1)),
      )

      lacks_context_same : (twin : Twin) → IsTwin r held twin → LacksContext b (one_of twin) ↔ LacksContext m (other_of twin)
      lacks_context_same (add_line c d l s z) is = target_same c d is.0
      lacks_context_same (add_ephemeral c d s z) is = target_same c d is.0
      lacks_context_same (modify c d t u s z) is = place_same c d is.0
      lacks_context_same (move c d t u s z) is = context_same c d is.0
      lacks_context_same (subtract c d t u) is = context_same c d is.0
      lacks_context_same (subtract_all c d) is = context_same c d is
      lacks_context_same (set_topology c d t u v x topology) is = context_same c d is.0

      -- ---- a code applies to both, or to neither; but for the want of numbers

      pub applies_onward : (twin : Twin) → IsTwin r held twin → (IsUsedUp b (one_of twin) → ⊥) → (code : Code) → Applies b (one_of twin) code
          → Applies m (other_of twin) code
      applies_onward twin is left UnknownContext applies = (lacks_context_same twin is).0 applies
      applies_onward twin is left UnknownTermination applies = lacks_same twin is ∙ applies
      applies_onward twin is left AlreadyInContext applies = taken_same twin is ∙ applies
      applies_onward twin is left NotInContext applies = misplaced_same twin is ∙ applies
      applies_onward twin is left InternalFailure applies = absurd applies
      applies_onward twin is left InsufficientResources applies = absurd (left applies)

      pub applies_back : (twin : Twin) → IsTwin r held twin → (IsUsedUp m (other_of twin) → ⊥) → (code : Code) → Applies m (other_of twin) code
          → Applies b (one_of twin) code
      applies_back twin is left UnknownContext applies = (lacks_context_same twin is).1 applies
      applies_back twin is left UnknownTermination applies = sym (lacks_same twin is) ∙ applies
      applies_back twin is left AlreadyInContext applies = sym (taken_same twin is) ∙ applies
      applies_back twin is left NotInContext applies = sym (misplaced_same twin is) ∙ applies
      applies_back twin is left InternalFailure applies = absurd applies
      applies_back twin is left InsufficientResources applies = absurd (left applies)

-- Members and cuts tied to rows: what stays so when a termination enters a context, leaves it, or changes within it.
use Rattle.std.proofs.Common.{◌≡◌, ℕ, ◌<◌, ◌==◌, Bool, true, false, not, ◌&&◌, ◌||◌, IsTrue, is_some, if◌then◌else◌, refl, ap, sym, ◌∙◌, arith, rules, List, [], ◌∷◌, ◌++◌, map, cond, Option, Some, None, Vec, ◌↔◌, filter}
use Rattle.std.proofs.lemmas.Grind.{common_steps}
use Rattle.std.proofs.lemmas.List.Folds.{list_any-append}
use Rattle.std.proofs.lemmas.Map.Views.{any-filter_same}
use Rattle.std.proofs.lemmas.Bool.{and_parts}
use Rattle.std.specs.Prelude.{nat_eq}
use Rattle.std.specs.List.{list_any, IsDistinct}
use Rattle.std.specs.Map.{lookup}
use Rattle.mg_names.specs.declared.identifiers.TermId.{TermId}
use Rattle.mg_model.specs.declared.rows.Row.{Row}
use Rattle.mg_model.specs.Board.{Board, same_term, place_in}
use Rattle.mg_model.specs.Items.{without_cuts}
use Rattle.mg_model.specs.Board.{row_with}
use Rattle.mg_model.proofs.Terminations.{same_term_is as same_is, same_term_self}
use Rattle.contexts.specs.declared.cuts.Cut.{Cut}
use Rattle.contexts.specs.Groups.{items_in, group_at, listed, kept, has_member, has_cut, with_member, without_member, without_cuts_of, touches, is_of}
use Rattle.contexts.specs.TiedBoard.{cuts_at, cut_of, stands_in, IsTied}
use Rattle.contexts.proofs.TermLemmas.{by_value, not_both}
use Rattle.contexts.proofs.OnceLemmas.{once_none, once_with, once_without}

-- the cuts that the view lists are those of the fields
pub cuts_viewed : {Z : Type 0} (es : List (ℕ × Vec Cut Z)) (c : ℕ) → cuts_at (map (λ (e : ℕ × Vec Cut Z). (e.0, e.1.items)) es) c ≡ group_at es c
cuts_viewed [] c = refl
cuts_viewed {Z} (e ∷ es) c = by_test (nat_eq c e.0) (cuts_viewed es c)
  where
    by_test : (b : Bool) → cuts_at (map (λ (e : ℕ × Vec Cut Z). (e.0, e.1.items)) es) c ≡ group_at es c →
        cond b (Some e.1.items) (cuts_at (map (λ (e : ℕ × Vec Cut Z). (e.0, e.1.items)) es) c) ≡ items_in (cond b (Some e.1) (lookup (nat_eq c) es))
    by_test true more = refl
    by_test false more = more

-- boards are equal by their parts
pub same_boards : (b d : Board) → b.row ≡ d.row → b.cut ≡ d.cut → b.used_context ≡ d.used_context → b.used_ephemeral ≡ d.used_ephemeral → b.class ≡ d.class → b ≡ d
same_boards b d r k g h l = λ i. record { row = r i; cut = k i; used_context = g i; used_ephemeral = h i; class = l i }

-- what is read off rows and cuts, where the rows and the cuts are equal
pub cut_of_same : (rows : TermId → Option Row) (k j : ℕ → Option (List Cut)) → ((c : ℕ) → k c ≡ j c) → cut_of rows k ≡ cut_of rows j
cut_of_same rows k j same = λ i t u. has_cut (same (place_in (rows t)) i) t u

pub stands_splits : (rows : TermId → Option Row) (c : ℕ) (t : TermId) → stands_in rows c t ≡ true → (c ≡ 0 → ⊥) × (place_in (rows t) ≡ c)
stands_splits rows c t h =
    let parts = and_parts (not (c == 0)) (place_in (rows t) == c) h in
    (λ zero_is. not_null c zero_is parts.0, at_place (place_in (rows t)) c parts.1)
  where
    not_null : (n : ℕ) → n ≡ 0 → not (n == 0) ≡ true → ⊥
    not_null n e k = let bad : not (0 == 0) ≡ true = rw e at k in absurd (search rules)

    at_place : (n m : ℕ) → (n == m) ≡ true → n ≡ m
    at_place n m e = grind (arith, common_steps)

pub stands_from : (rows : TermId → Option Row) (c : ℕ) (t : TermId) → (c ≡ 0 → ⊥) → place_in (rows t) ≡ c → stands_in rows c t ≡ true
stands_from rows c t n e = grind (arith, common_steps)

pub stands_not : (rows : TermId → Option Row) (c : ℕ) (t : TermId) → place_in (rows t) ≡ 0 → stands_in rows c t ≡ false
stands_not rows c t e = grind (arith, common_steps)

-- a context is kept exactly where it exists
abbrev pub StandsSome : (TermId → Option Row) → ℕ → Type 0
StandsSome rows c = (c ≡ 0 → ⊥) × ((t : TermId) × (place_in (rows t) ≡ c))

pub exists_iff : (rows : TermId → Option Row) (m : ℕ → Option (List TermId)) (k : ℕ → Option (List Cut)) → IsTied rows m k → (c : ℕ) → IsTrue (is_some (m c)) ↔ StandsSome rows c
exists_iff rows m k tied c = (λ h. go (m c) refl h, λ there. back (m c) refl there)
  where
    go : (g : Option (List TermId)) → m c ≡ g → IsTrue (is_some g) → StandsSome rows c
    go None e h = absurd (search rules)
    go (Some []) e h = absurd (tied.not_empty c e)
    go (Some (t ∷ ts)) e h =
        let first : has_member (m c) t ≡ true = rw (e, same_term_self t) refl in
        let parts = stands_splits rows c t (sym (tied.stands c t) ∙ first) in
        (parts.0, (t, parts.1))

    back : (g : Option (List TermId)) → m c ≡ g → StandsSome rows c → IsTrue (is_some g)
    back (Some ts) e there = search rules
    back None e there =
        let stands : has_member (m c) there.1.0 ≡ true = tied.stands c there.1.0 ∙ stands_from rows c there.1.0 there.0 there.1.1 in
        let none : has_member None there.1.0 ≡ true = rw e at stands in absurd (search rules)

-- nothing is cut of what doesn't stand there
pub not_cut : (rows : TermId → Option Row) (m : ℕ → Option (List TermId)) (k : ℕ → Option (List Cut)) → IsTied rows m k →
    (c : ℕ) (t u : TermId) → stands_in rows c t ≡ false → has_cut (k c) t u ≡ false
not_cut rows m k tied c t u apart = by_value (has_cut (k c) t u) (λ h. not_both (stands_in rows c t) (tied.inside c t u h).0 apart) (λ h. h)

-- ---- changes within a context

pub tied_within : (rows after : TermId → Option Row) (m : ℕ → Option (List TermId)) (k : ℕ → Option (List Cut)) →
    ((t : TermId) → place_in (after t) ≡ place_in (rows t)) → IsTied rows m k → IsTied after m k
tied_within rows after m k same tied = record {
  stands = λ c t. tied.stands c t ∙ ap (λ (n : ℕ). not (c == 0) && n == c) (sym (same t));
  not_empty = tied.not_empty;
  once = tied.once;
  inside = λ c t u h. (ap (λ (n : ℕ). not (c == 0) && n == c) (same t) ∙ (tied.inside c t u h).0, ap (λ (n : ℕ). not (c == 0) && n == c) (same u) ∙ (tied.inside c t u h).1);
}

pub cut_within : (rows after : TermId → Option Row) (k : ℕ → Option (List Cut)) → ((t : TermId) → place_in (after t) ≡ place_in (rows t)) → cut_of after k ≡ cut_of rows k
cut_within rows after k same = λ i t u. has_cut (k (same t i)) t u

pub place_kept : (rows : TermId → Option Row) (t : TermId) (row : Option Row) → place_in row ≡ place_in (rows t) → (u : TermId) → place_in (row_with rows t row u) ≡ place_in (rows u)
place_kept rows t row same u = by_value (same_term u t) (λ e. let is = same_is u t e in rw (e, is) same) (λ e. rw e refl)

-- ---- a termination enters a context

pub record Enters (rows after : TermId → Option Row) (m n : ℕ → Option (List TermId)) (t : TermId) (row : Option Row) (c : ℕ) : Type 0 where
  pub was : place_in (rows t) ≡ 0
  pub not_null : c ≡ 0 → ⊥
  pub place : place_in row ≡ c
  pub rows_are : after ≡ row_with rows t row
  pub members : (d : ℕ) → n d ≡ (if d == c then with_member t (m c) else m d)

pub stands_entered : (rows : TermId → Option Row) (t : TermId) (row : Option Row) (c d : ℕ) (u : TermId) → (c ≡ 0 → ⊥) → place_in (rows t) ≡ 0 → place_in row ≡ c →
    stands_in (row_with rows t row) d u ≡ (stands_in rows d u || (d == c && same_term u t))
stands_entered rows t row c d u not_null was place = by_value (same_term u t)
    (λ e. let is = same_is u t e in let there : place_in (rows u) ≡ 0 = rw is was in rw (e, there, place) (number d c not_null))
    (λ e. rw e (plain (stands_in rows d u) (d == c)))
  where
    number : (d c : ℕ) → (c ≡ 0 → ⊥) → (not (d == 0) && c == d) ≡ ((not (d == 0) && 0 == d) || (d == c && true))
    number d c h = grind (arith, common_steps)

    plain : (a b : Bool) → a ≡ (a || (b && false))
    plain true true = refl
    plain true false = refl
    plain false true = refl
    plain false false = refl

pub tied_entered : (rows after : TermId → Option Row) (m n : ℕ → Option (List TermId)) (k : ℕ → Option (List Cut)) (t : TermId) (row : Option Row) (c : ℕ) →
    Enters rows after m n t row c → IsTied rows m k → IsTied after n k
tied_entered rows after m n k t row c enters tied = rw enters.rows_are record {
  stands = λ d u. stands d u;
  not_empty = λ d e. not_empty d e;
  once = λ d. once d;
  inside = λ d x y h. (more d x (tied.inside d x y h).0, more d y (tied.inside d x y h).1);
}
  where
    entered : (d : ℕ) (u : TermId) → stands_in (row_with rows t row) d u ≡ (stands_in rows d u || (d == c && same_term u t))
    entered d u = stands_entered rows t row c d u enters.not_null enters.was enters.place

    or_false : (a b : Bool) → (a || (b || false)) ≡ (a || b)
    or_false true b = refl
    or_false false true = refl
    or_false false false = refl

    or_none : (a : Bool) → a ≡ (a || false)
    or_none true = refl
    or_none false = refl

    or_true : (a b : Bool) → a ≡ true → (a || b) ≡ true
    or_true true b h = refl
    or_true false b h = absurd (search rules)

    no_end : (xs : List TermId) → Some (xs ++ t ∷ []) ≡ Some [] → ⊥
    no_end [] e = cc
    no_end (x ∷ xs) e = cc

    stands : (d : ℕ) (u : TermId) → has_member (n d) u ≡ stands_in (row_with rows t row) d u
    stands d u = by_value (d == c)
        (λ e. let same : d ≡ c = grind (arith, common_steps) in rw (enters.members d, entered d u, e, list_any-append (same_term u) (listed (m c)) (t ∷ [])) (or_false (list_any (same_term u) (listed (m c))) (same_term u t) ∙ ap (λ (a : Bool). a || same_term u t) (tied.stands c u ∙ ap (λ (i : ℕ). stands_in rows i u) (sym same))))
        (λ e. rw (enters.members d, entered d u, e) (tied.stands d u ∙ or_none (stands_in rows d u)))

    -- it stood in none
    apart : has_member (m c) t ≡ false
    apart = tied.stands c t ∙ stands_not rows c t enters.was

    once : (d : ℕ) → IsDistinct same_term (listed (n d))
    once d = rw (enters.members d) (by_value (d == c)
        (λ e. rw e (once_with t (m c) apart (tied.once c)))
        (λ e. rw e (tied.once d)))

    not_empty : (d : ℕ) → n d ≡ Some [] → ⊥
    not_empty d h = by_value (d == c)
        (λ e. let at : (if d == c then with_member t (m c) else m d) ≡ Some [] = sym (enters.members d) ∙ h in let bad : with_member t (m c) ≡ Some [] = rw e at at in no_end (listed (m c)) bad)
        (λ e. let at : (if d == c then with_member t (m c) else m d) ≡ Some [] = sym (enters.members d) ∙ h in let bad : m d ≡ Some [] = rw e at at in tied.not_empty d bad)

    more : (d : ℕ) (x : TermId) → stands_in rows d x ≡ true → stands_in (row_with rows t row) d x ≡ true
    more d x h = entered d x ∙ or_true (stands_in rows d x) (d == c && same_term x t) h

pub cut_entered : (rows after : TermId → Option Row) (m n : ℕ → Option (List TermId)) (k : ℕ → Option (List Cut)) (t : TermId) (row : Option Row) (c : ℕ) →
    Enters rows after m n t row c → IsTied rows m k → cut_of after k ≡ cut_of rows k
cut_entered rows after m n k t row c enters tied = rw enters.rows_are (λ i x y. at x y i)
  where
    at : (x y : TermId) → has_cut (k (place_in (row_with rows t row x))) x y ≡ has_cut (k (place_in (rows x))) x y
    at x y = by_value (same_term x t)
        (λ e. let is = same_is x t e in let there : place_in (rows x) ≡ 0 = rw is enters.was in
        not_cut rows m k tied (place_in (row_with rows t row x)) x y (stands_not rows _ x there) ∙ sym (not_cut rows m k tied (place_in (rows x)) x y (stands_not rows _ x there)))
        (λ e. rw e refl)

-- ---- a termination leaves a context

pub record Leaves (rows after : TermId → Option Row) (m n : ℕ → Option (List TermId)) (k j : ℕ → Option (List Cut)) (t : TermId) (row : Option Row) (c : ℕ) : Type 0 where
  pub was : place_in (rows t) ≡ c
  pub place : place_in row ≡ 0
  pub rows_are : after ≡ row_with rows t row
  pub members : (d : ℕ) → n d ≡ (if d == c then without_member t (m c) else m d)
  pub cuts : (d : ℕ) → j d ≡ (if d == c then without_cuts_of t (k c) else k d)

pub member_without : (t u : TermId) (g : Option (List TermId)) → has_member (without_member t g) u ≡ (not (same_term u t) && has_member g u)
member_without t u None = both_false (not (same_term u t))
  where
    both_false : (b : Bool) → false ≡ (b && false)
    both_false true = refl
    both_false false = refl
member_without t u (Some xs) = listed_kept (filter (λ x. not (same_term x t)) xs) ∙ any-filter_same (same_term u) (λ x. not (same_term x t)) (not (same_term u t)) (λ x e. ap (λ (y : TermId). not (same_term y t)) (sym (same_is u x e))) xs
  where
    listed_kept : (ys : List TermId) → has_member (kept ys) u ≡ list_any (same_term u) ys
    listed_kept [] = refl
    listed_kept (y ∷ ys) = refl

pub kept_not_empty : (t : TermId) (g : Option (List TermId)) → without_member t g ≡ Some [] → ⊥
kept_not_empty t None e = cc
kept_not_empty t (Some xs) e = go (filter (λ x. not (same_term x t)) xs) e
  where
    go : (ys : List TermId) → kept ys ≡ Some [] → ⊥
    go [] e = cc
    go (y ∷ ys) e = cc

pub cut_without : (t x y : TermId) (g : Option (List Cut)) → has_cut (without_cuts_of t g) x y ≡ (not (same_term x t || same_term y t) && has_cut g x y)
cut_without t x y None = both_false (not (same_term x t || same_term y t))
  where
    both_false : (b : Bool) → false ≡ (b && false)
    both_false true = refl
    both_false false = refl
cut_without t x y (Some cs) = listed_kept (filter (λ cut. not (touches t cut)) cs) ∙ any-filter_same (is_of x y) (λ cut. not (touches t cut)) (not (same_term x t || same_term y t)) (λ cut e. of_pair cut e) cs
  where
    listed_kept : (ds : List Cut) → has_cut (kept ds) x y ≡ list_any (is_of x y) ds
    listed_kept [] = refl
    listed_kept (d ∷ ds) = refl

    of_pair : (cut : Cut) → is_of x y cut ≡ true → not (touches t cut) ≡ not (same_term x t || same_term y t)
    of_pair cut e =
        let parts = and_parts (same_term cut.source x) (same_term cut.sink y) e in
        rw (same_is cut.source x parts.0, same_is cut.sink y parts.1) refl

pub stands_left : (rows : TermId → Option Row) (t : TermId) (row : Option Row) (d : ℕ) (u : TermId) → place_in row ≡ 0 →
    stands_in (row_with rows t row) d u ≡ (not (same_term u t) && stands_in rows d u)
stands_left rows t row d u place = by_value (same_term u t) (λ e. rw (e, place) (none d)) (λ e. rw e refl)
  where
    none : (d : ℕ) → (not (d == 0) && 0 == d) ≡ false
    none d = grind (arith, common_steps)

pub tied_left : (rows after : TermId → Option Row) (m n : ℕ → Option (List TermId)) (k j : ℕ → Option (List Cut)) (t : TermId) (row : Option Row) (c : ℕ) →
    Leaves rows after m n k j t row c → IsTied rows m k → IsTied after n j
tied_left rows after m n k j t row c leaves tied = rw leaves.rows_are record {
  stands = λ d u. stands d u;
  not_empty = λ d e. not_empty d e;
  once = λ d. once d;
  inside = λ d x y h. inside d x y h;
}
  where
    elsewhere : (d : ℕ) (u : TermId) → (d == c) ≡ false → stands_in rows d u ≡ (not (same_term u t) && stands_in rows d u)
    elsewhere d u e = by_value (same_term u t)
        (λ is. let same = same_is u t is in let there : place_in (rows u) ≡ c = rw same leaves.was in rw (is, there) (apart d e))
        (λ is. rw is refl)
      where
        apart : (d : ℕ) → (d == c) ≡ false → (not (d == 0) && c == d) ≡ false
        apart d e = grind (arith, common_steps)

    stands : (d : ℕ) (u : TermId) → has_member (n d) u ≡ stands_in (row_with rows t row) d u
    stands d u = by_value (d == c)
        (λ e. let same : d ≡ c = grind (arith, common_steps) in rw (leaves.members d, stands_left rows t row d u leaves.place, e, member_without t u (m c)) (ap (λ (a : Bool). not (same_term u t) && a) (tied.stands c u ∙ ap (λ (i : ℕ). stands_in rows i u) (sym same))))
        (λ e. rw (leaves.members d, stands_left rows t row d u leaves.place, e) (tied.stands d u ∙ elsewhere d u e))

    once : (d : ℕ) → IsDistinct same_term (listed (n d))
    once d = rw (leaves.members d) (by_value (d == c)
        (λ e. rw e (once_without t (m c) (tied.once c)))
        (λ e. rw e (tied.once d)))

    not_empty : (d : ℕ) → n d ≡ Some [] → ⊥
    not_empty d h = by_value (d == c)
        (λ e. let at : (if d == c then without_member t (m c) else m d) ≡ Some [] = sym (leaves.members d) ∙ h in let bad : without_member t (m c) ≡ Some [] = rw e at at in kept_not_empty t (m c) bad)
        (λ e. let at : (if d == c then without_member t (m c) else m d) ≡ Some [] = sym (leaves.members d) ∙ h in let bad : m d ≡ Some [] = rw e at at in tied.not_empty d bad)

    stays : (d : ℕ) (x : TermId) → same_term x t ≡ false → stands_in rows d x ≡ true → stands_in (row_with rows t row) d x ≡ true
    stays d x e h = rw e h

    neither : (a b : Bool) → not (a || b) ≡ true → (a ≡ false) × (b ≡ false)
    neither true b h = absurd (search rules)
    neither false true h = absurd (search rules)
    neither false false h = (refl, refl)

    not_there : (d : ℕ) (x : TermId) → (d == c) ≡ false → stands_in rows d x ≡ true → same_term x t ≡ false
    not_there d x e h = by_value (same_term x t)
        (λ is. not_both (stands_in rows d x) h (elsewhere d x e ∙ rw is refl))
        (λ is. is)

    inside : (d : ℕ) (x y : TermId) → has_cut (j d) x y ≡ true → (stands_in (row_with rows t row) d x ≡ true) × (stands_in (row_with rows t row) d y ≡ true)
    inside d x y h = by_value (d == c)
        (λ e. let same : d ≡ c = grind (arith, common_steps) in
        let at : has_cut (if d == c then without_cuts_of t (k c) else k d) x y ≡ true = ap (λ (g : Option (List Cut)). has_cut g x y) (sym (leaves.cuts d)) ∙ h in
        let here : has_cut (without_cuts_of t (k c)) x y ≡ true = rw e at at in
        let parts = and_parts (not (same_term x t || same_term y t)) (has_cut (k c) x y) (sym (cut_without t x y (k c)) ∙ here) in
        let apart = neither (same_term x t) (same_term y t) parts.0 in
        let both = tied.inside c x y parts.1 in
        (stays d x apart.0 (ap (λ (i : ℕ). stands_in rows i x) same ∙ both.0), stays d y apart.1 (ap (λ (i : ℕ). stands_in rows i y) same ∙ both.1)))
        (λ e. let at : has_cut (if d == c then without_cuts_of t (k c) else k d) x y ≡ true = ap (λ (g : Option (List Cut)). has_cut g x y) (sym (leaves.cuts d)) ∙ h in
        let here : has_cut (k d) x y ≡ true = rw e at at in
        let both = tied.inside d x y here in
        (stays d x (not_there d x e both.0) both.0, stays d y (not_there d y e both.1) both.1))

pub cut_left : (rows after : TermId → Option Row) (m n : ℕ → Option (List TermId)) (k j : ℕ → Option (List Cut)) (t : TermId) (row : Option Row) (c : ℕ) →
    Leaves rows after m n k j t row c → IsTied rows m k → cut_of after j ≡ without_cuts (λ u. same_term u t) (cut_of rows k)
cut_left rows after m n k j t row c leaves tied = rw leaves.rows_are (λ i x y. at x y i)
  where
    with_value : (d : ℕ) (x y : TermId) → has_cut (j d) x y ≡ has_cut (if d == c then without_cuts_of t (k c) else k d) x y
    with_value d x y = ap (λ (g : Option (List Cut)). has_cut g x y) (leaves.cuts d)

    not_any : (d : ℕ) (x y : TermId) → stands_in rows d x ≡ false → has_cut (j d) x y ≡ false
    not_any d x y h = with_value d x y ∙ by_value (d == c)
        (λ e. let same : d ≡ c = grind (arith, common_steps) in rw (e, cut_without t x y (k c), not_cut rows m k tied c x y (ap (λ (i : ℕ). stands_in rows i x) (sym same) ∙ h)) (and_false (not (same_term x t || same_term y t))))
        (λ e. rw e (not_cut rows m k tied d x y h))
      where
        and_false : (b : Bool) → (b && false) ≡ false
        and_false true = refl
        and_false false = refl

    goes : (d : ℕ) (x y : TermId) → same_term x t ≡ false → same_term y t ≡ true → (d == c) ≡ false → has_cut (k d) x y ≡ false
    goes d x y ex ey e = by_value (has_cut (k d) x y)
        (λ h. let is = same_is y t ey in let there : place_in (rows y) ≡ c = rw is leaves.was in
        let at = stands_splits rows d y (tied.inside d x y h).1 in
        let same : d ≡ c = sym at.1 ∙ there in absurd (grind (arith, common_steps)))
        (λ h. h)

    at : (x y : TermId) → has_cut (j (place_in (row_with rows t row x))) x y ≡ without_cuts (λ u. same_term u t) (cut_of rows k) x y
    at x y = by_value (same_term x t)
        (λ e. rw (e, leaves.place) (not_any 0 x y (null x)))
        (λ e. rw e (with_value (place_in (rows x)) x y ∙ by_value (same_term y t)
        (λ ey. by_value (place_in (rows x) == c)
        (λ here. rw (here, ey, cut_without t x y (k c), e, ey) refl)
        (λ other. rw (other, ey) (goes (place_in (rows x)) x y e ey other)))
        (λ ey. by_value (place_in (rows x) == c)
        (λ here. let same : place_in (rows x) ≡ c = grind (arith, common_steps) in rw (here, ey, cut_without t x y (k c), e, ey, same) refl)
        (λ other. rw (other, ey) refl))))
      where
        null : (x : TermId) → stands_in rows 0 x ≡ false
        null x = refl

pub positive : (n : ℕ) → 0 < n → n ≡ 0 → ⊥
positive n h e = omega (arith, h, e)

-- ---- nothing stands in a context

pub tied_none : (rows : TermId → Option Row) (m : ℕ → Option (List TermId)) (k : ℕ → Option (List Cut)) → ((t : TermId) → place_in (rows t) ≡ 0) →
    ((c : ℕ) → m c ≡ None) → ((c : ℕ) → k c ≡ None) → IsTied rows m k
tied_none rows m k null no_members no_cuts = record {
  stands = λ c t. rw (no_members c) (sym (stands_not rows c t (null t)));
  not_empty = λ c h. none (m c) h (no_members c);
  once = λ c. rw (no_members c) once_none;
  inside = λ c t u h. let at : has_cut None t u ≡ true = rw (no_cuts c) at h in absurd (search rules);
}
  where
    none : (g : Option (List TermId)) → g ≡ Some [] → g ≡ None → ⊥
    none g h e = cc

-- Terminations taken out of their context one after the other, or all at once.
use Rattle.std.proofs.Common.{◌≡◌, ◌≢◌, ℕ, ◌==◌, Bool, true, false, not, ◌&&◌, if◌then◌else◌, refl, ap, sym, ◌∙◌, arith, rules, List, [], ◌∷◌, Option, Some, None}
use Rattle.std.proofs.lemmas.Grind.{common_steps}
use Rattle.std.proofs.lemmas.Bool.{eqb-true}
use Rattle.std.specs.List.{list_any}
use Rattle.mg_names.specs.declared.identifiers.TermId.{TermId}
use Rattle.mg_names.specs.declared.identifiers.TermId.TheVariants.{Line, Eph}
use Rattle.mg_model.specs.declared.rows.Row.{Row}
use Rattle.mg_model.specs.Board.{same_term, place_in}
use Rattle.mg_model.specs.Items.{without_cuts, subtracted}
use Rattle.terminations.specs.Table.{cleared}
use Rattle.mg_model.specs.Board.{row_with}
use Rattle.mg_model.proofs.Terminations.{same_term_is}
use Rattle.contexts.specs.declared.cuts.Cut.{Cut}
use Rattle.contexts.specs.Groups.{listed, has_cut}
use Rattle.contexts.specs.BoardValue.{cut_of, stands_in, IsTied}
use Rattle.contexts.proofs.TermLemmas.{by_value, not_both}
use Rattle.contexts.proofs.OnceLemmas.{once_none}
use Rattle.contexts.proofs.TieLemmas.{not_cut, stands_splits}
use Rattle.contexts.proofs.RowLemmas.{cleared_place}
use Rattle.contexts.proofs.MoveLemmas.{is_not}

abbrev pub cleared_by : List TermId → (TermId → Option Row) → TermId → Option Row
cleared_by group rows u = if list_any (same_term u) group then cleared u (rows u) else rows u

pub cleared_twice : (t : TermId) (row : Option Row) → cleared t (cleared t row) ≡ cleared t row
cleared_twice (Line l) None = refl
cleared_twice (Line l) (Some row) = refl
cleared_twice (Eph k) row = refl

pub one_cleared : (t : TermId) (group : List TermId) (rows : TermId → Option Row) (u : TermId) →
    cleared_by group (row_with rows t (cleared t (rows t))) u ≡ cleared_by (t ∷ group) rows u
one_cleared t group rows u = by_value (same_term u t)
    (λ e. let is = same_term_is u t e in rw (e, is) (same (list_any (same_term t) group)))
    (λ e. rw e refl)
  where
    same : (b : Bool) → (if b then cleared t (cleared t (rows t)) else cleared t (rows t)) ≡ cleared t (rows t)
    same true = cleared_twice t (rows t)
    same false = refl

-- ---- all members of a context

pub record Clears (rows after : TermId → Option Row) (m n : ℕ → Option (List TermId)) (k j : ℕ → Option (List Cut)) (c : ℕ) : Type 0 where
  pub not_null : c ≢ 0
  pub rows_are : (u : TermId) → after u ≡ cleared_by (listed (m c)) rows u
  pub members : (d : ℕ) → n d ≡ (if d == c then None else m d)
  pub cuts : (d : ℕ) → j d ≡ (if d == c then None else k d)

pub record ClearsRows (rows after : TermId → Option Row) (c : ℕ) : Type 0 where
  pub there : (u : TermId) → (place_in (rows u) == c) ≡ true → after u ≡ cleared u (rows u)
  pub elsewhere : (u : TermId) → (place_in (rows u) == c) ≡ false → after u ≡ rows u

pub clears_rows : (rows after : TermId → Option Row) (m n : ℕ → Option (List TermId)) (k j : ℕ → Option (List Cut)) (c : ℕ) → Clears rows after m n k j c → IsTied rows m k → ClearsRows rows after c
clears_rows rows after m n k j c clears tied = record {
  there = λ u e. clears.rows_are u ∙ rw (tied.stands c u, is_not c 0 clears.not_null, e) refl;
  elsewhere = λ u e. clears.rows_are u ∙ rw (tied.stands c u, is_not c 0 clears.not_null, e) refl;
}

pub subtracted_all : (rows after : TermId → Option Row) (c : ℕ) → c ≢ 0 → ClearsRows rows after c → after ≡ (λ u. if place_in (rows u) == c then subtracted u else rows u)
subtracted_all rows after c not_null clears = λ i u. at u i
  where
    some : (u : TermId) (row : Option Row) → (place_in row == c) ≡ true → cleared u row ≡ subtracted u
    some u None e = let same : 0 ≡ c = eqb-true 0 c e in absurd (not_null (sym same))
    some (Line l) (Some row) e = refl
    some (Eph k) (Some row) e = refl

    at : (u : TermId) → after u ≡ (if place_in (rows u) == c then subtracted u else rows u)
    at u = by_value (place_in (rows u) == c)
        (λ e. clears.there u e ∙ rw e (some u (rows u) e))
        (λ e. clears.elsewhere u e ∙ rw e refl)

pub stands_cleared : (rows after : TermId → Option Row) (c d : ℕ) (u : TermId) → c ≢ 0 → ClearsRows rows after c → stands_in after d u ≡ (not (d == c) && stands_in rows d u)
stands_cleared rows after c d u not_null clears = by_value (place_in (rows u) == c)
    (λ e. let is = eqb-true (place_in (rows u)) c e in rw (clears.there u e, cleared_place u (rows u), is) (number d c))
    (λ e. rw (clears.elsewhere u e) (other d c (place_in (rows u)) e))
  where
    number : (d c : ℕ) → (not (d == 0) && 0 == d) ≡ (not (d == c) && (not (d == 0) && c == d))
    number d c = grind (arith, common_steps)

    other : (d c p : ℕ) → (p == c) ≡ false → (not (d == 0) && p == d) ≡ (not (d == c) && (not (d == 0) && p == d))
    other d c p e = grind (arith, common_steps)

pub tied_cleared : (rows after : TermId → Option Row) (m n : ℕ → Option (List TermId)) (k j : ℕ → Option (List Cut)) (c : ℕ) → Clears rows after m n k j c → IsTied rows m k → IsTied after n j
tied_cleared rows after m n k j c clears tied = record {
  stands = λ d u. by_value (d == c)
      (λ e. rw (clears.members d, stood d u, e) refl)
      (λ e. rw (clears.members d, stood d u, e) (tied.stands d u));
  not_empty = λ d h. by_value (d == c)
      (λ e. none (n d) h (clears.members d ∙ rw e refl))
      (λ e. tied.not_empty d (rw e at (sym (clears.members d) ∙ h)));
  once = λ d. rw (clears.members d) (by_value (d == c) (λ e. rw e once_none) (λ e. rw e (tied.once d)));
  inside = λ d x y h. by_value (d == c)
      (λ e. let at : has_cut None x y ≡ true = rw (clears.cuts d, e) at h in absurd (search rules))
      (λ e. let at : has_cut (k d) x y ≡ true = rw (clears.cuts d, e) at h in
      (stood d x ∙ rw e (tied.inside d x y at).0, stood d y ∙ rw e (tied.inside d x y at).1));
}
  where
    stood : (d : ℕ) (u : TermId) → stands_in after d u ≡ (not (d == c) && stands_in rows d u)
    stood d u = stands_cleared rows after c d u clears.not_null (clears_rows rows after m n k j c clears tied)

    none : (g : Option (List TermId)) → g ≡ Some [] → g ≡ None → ⊥
    none g h e = cc

pub cut_cleared : (rows after : TermId → Option Row) (m n : ℕ → Option (List TermId)) (k j : ℕ → Option (List Cut)) (c : ℕ) → Clears rows after m n k j c → IsTied rows m k →
    cut_of after j ≡ without_cuts (λ u. place_in (rows u) == c) (cut_of rows k)
cut_cleared rows after m n k j c clears tied = λ i x y. at x y i
  where
    cleared_rows : ClearsRows rows after c
    cleared_rows = clears_rows rows after m n k j c clears tied

    with_value : (d : ℕ) (x y : TermId) → has_cut (j d) x y ≡ has_cut (if d == c then None else k d) x y
    with_value d x y = ap (λ (g : Option (List Cut)). has_cut g x y) (clears.cuts d)

    not_null : (x : TermId) → stands_in rows 0 x ≡ false
    not_null x = refl

    apart : (x y : TermId) → (place_in (rows x) == c) ≡ false → (place_in (rows y) == c) ≡ true → has_cut (k (place_in (rows x))) x y ≡ false
    apart x y e f = by_value (has_cut (k (place_in (rows x))) x y)
        (λ h. let same = (stands_splits rows (place_in (rows x)) y (tied.inside (place_in (rows x)) x y h).1).1 in
        let there : (place_in (rows y) == c) ≡ false = rw same e in not_both (place_in (rows y) == c) f there)
        (λ h. h)

    at : (x y : TermId) → has_cut (j (place_in (after x))) x y ≡ without_cuts (λ u. place_in (rows u) == c) (cut_of rows k) x y
    at x y = by_value (place_in (rows x) == c)
        (λ e. rw (e, cleared_rows.there x e, cleared_place x (rows x)) (with_value 0 x y ∙ rw (is_not 0 c (λ z. clears.not_null (sym z))) (not_cut rows m k tied 0 x y (not_null x))))
        (λ e. rw (e, cleared_rows.elsewhere x e) (with_value (place_in (rows x)) x y ∙ rw e (by_value (place_in (rows y) == c)
        (λ f. rw f (apart x y e f))
        (λ f. rw f refl))))

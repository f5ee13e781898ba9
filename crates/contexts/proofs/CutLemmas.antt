-- What is cut between two terminations, set anew both ways.
use Rattle.std.proofs.Common.{◌≡◌, ℕ, ◌==◌, Bool, true, false, not, ◌&&◌, ◌||◌, if◌then◌else◌, refl, ap, sym, ◌∙◌, arith, List, [], ◌∷◌, Option, Some, filter}
use Rattle.std.proofs.lemmas.Grind.{common_steps}
use Rattle.std.proofs.lemmas.List.Folds.{list_any-append}
use Rattle.std.proofs.lemmas.Map.Views.{any-filter_same}
use Rattle.std.proofs.lemmas.Bool.{and_parts}
use Rattle.std.specs.List.{list_any}
use Rattle.mg_names.specs.declared.identifiers.TermId.{TermId}
use Rattle.mg_model.specs.declared.rows.Row.{Row}
use Rattle.mg_model.specs.Board.{same_term, place_in}
use Rattle.mg_model.specs.Items.{with_cut, without_cuts}
use Rattle.mg_model.proofs.Terminations.{same_term_is as same_is, same_term_turned}
use Rattle.contexts.specs.declared.cuts.Cut.{Cut}
use Rattle.contexts.specs.Groups.{listed, has_cut, is_of, is_between, cut_if, set_between}
use Rattle.contexts.specs.TiedBoard.{cut_of, stands_in, IsTied}
use Rattle.contexts.proofs.TermLemmas.{by_value, not_both}
use Rattle.contexts.proofs.TieLemmas.{not_cut, stands_not, stands_from}

pub cut_if_has : (wanted : Bool) (t u x y : TermId) (cs : List Cut) → list_any (is_of x y) (cut_if wanted t u cs) ≡ (list_any (is_of x y) cs || (wanted && (same_term t x && same_term u y)))
cut_if_has true t u x y cs = list_any-append (is_of x y) cs (record { source = t; sink = u } ∷ []) ∙ or_false (list_any (is_of x y) cs) (same_term t x && same_term u y)
  where
    or_false : (a b : Bool) → (a || (b || false)) ≡ (a || b)
    or_false true b = refl
    or_false false true = refl
    or_false false false = refl
cut_if_has false t u x y cs = or_none (list_any (is_of x y) cs)
  where
    or_none : (a : Bool) → a ≡ (a || false)
    or_none true = refl
    or_none false = refl

pub others_have : (t u x y : TermId) (cs : List Cut) →
    list_any (is_of x y) (filter (λ cut. not (is_between t u cut)) cs) ≡ (not ((same_term x t && same_term y u) || (same_term x u && same_term y t)) && list_any (is_of x y) cs)
others_have t u x y cs = any-filter_same (is_of x y) (λ cut. not (is_between t u cut)) (not ((same_term x t && same_term y u) || (same_term x u && same_term y t))) (λ cut e. of_pair cut e) cs
  where
    of_pair : (cut : Cut) → is_of x y cut ≡ true → not (is_between t u cut) ≡ not ((same_term x t && same_term y u) || (same_term x u && same_term y t))
    of_pair cut e =
        let parts = and_parts (same_term cut.source x) (same_term cut.sink y) e in
        rw (same_is cut.source x parts.0, same_is cut.sink y parts.1) refl

-- both pairs are one only where the terminations are
pub apart : (t u x y : TermId) → same_term t u ≡ false → (same_term x t && same_term y u) ≡ true → (same_term x u && same_term y t) ≡ true → ⊥
apart t u x y differ one two =
    let first = and_parts (same_term x t) (same_term y u) one in
    let second = and_parts (same_term x u) (same_term y t) two in
    let is = same_is x t first.0 in
    let same : same_term t u ≡ true = rw is at second.0 in not_both (same_term t u) same differ

pub by_pairs : (h f b A B : Bool) → (A ≡ true → B ≡ true → ⊥) →
    (((not (A || B) && h) || (f && A)) || (b && B)) ≡ (if B then b else (if A then f else h))
by_pairs h f b true true differ = absurd (differ refl refl)
by_pairs h true b true false differ = end b
  where
    end : (b : Bool) → (true || (b && false)) ≡ true
    end b = refl
by_pairs h false b true false differ = end b
  where
    end : (b : Bool) → (false || (b && false)) ≡ false
    end true = refl
    end false = refl
by_pairs h true true false true differ = refl
by_pairs h true false false true differ = refl
by_pairs h false true false true differ = refl
by_pairs h false false false true differ = refl
by_pairs true f b false false differ = refl
by_pairs false true true false false differ = refl
by_pairs false true false false false differ = refl
by_pairs false false true false false differ = refl
by_pairs false false false false false differ = refl

pub set_has : (t u : TermId) (forward backward : Bool) (g : Option (List Cut)) (x y : TermId) → same_term t u ≡ false →
    has_cut (Some (set_between t u forward backward (listed g))) x y ≡ with_cut (with_cut (has_cut g) t u forward) u t backward x y
set_has t u forward backward g x y differ =
    let inner = filter (λ cut. not (is_between t u cut)) (listed g) in
    let A = same_term x t && same_term y u in
    let B = same_term x u && same_term y t in
    cut_if_has backward u t x y (cut_if forward t u inner)
    ∙ ap (λ (q : Bool). q || (backward && (same_term u x && same_term t y))) (cut_if_has forward t u x y inner ∙ ap (λ (q : Bool). q || (forward && (same_term t x && same_term u y))) (others_have t u x y (listed g)))
    ∙ rw (same_term_turned t x, same_term_turned u y, same_term_turned u x, same_term_turned t y) (by_pairs (has_cut g x y) forward backward A B (λ one two. apart t u x y differ one two))

-- ---- in the rows

pub record Sets (rows : TermId → Option Row) (k j : ℕ → Option (List Cut)) (t u : TermId) (forward backward : Bool) (c : ℕ) : Type 0 where
  pub not_null : c ≡ 0 → ⊥
  pub first : place_in (rows t) ≡ c
  pub second : place_in (rows u) ≡ c
  pub differ : same_term t u ≡ false
  pub cuts : (d : ℕ) → j d ≡ (if d == c then Some (set_between t u forward backward (listed (k c))) else k d)

pub with_cut_elsewhere : (cut : TermId → TermId → Bool) (t u : TermId) (value : Bool) (x y : TermId) → same_term x t ≡ false → with_cut cut t u value x y ≡ cut x y
with_cut_elsewhere cut t u value x y e = rw e refl

pub cut_set : (rows : TermId → Option Row) (k j : ℕ → Option (List Cut)) (t u : TermId) (forward backward : Bool) (c : ℕ) → Sets rows k j t u forward backward c →
    cut_of rows j ≡ with_cut (with_cut (cut_of rows k) t u forward) u t backward
cut_set rows k j t u forward backward c sets = λ i x y. at x y i
  where
    with_value : (d : ℕ) (x y : TermId) → has_cut (j d) x y ≡ has_cut (if d == c then Some (set_between t u forward backward (listed (k c))) else k d) x y
    with_value d x y = ap (λ (g : Option (List Cut)). has_cut g x y) (sets.cuts d)

    elsewhere : (x v : TermId) → (place_in (rows x) == c) ≡ false → place_in (rows v) ≡ c → same_term x v ≡ false
    elsewhere x v other there = by_value (same_term x v)
        (λ e. let is = same_is x v e in let here : place_in (rows x) ≡ c = rw is there in absurd (number (place_in (rows x)) other here))
        (λ e. e)
      where
        number : (n : ℕ) → (n == c) ≡ false → n ≡ c → ⊥
        number n e h = grind (arith, common_steps)

    at : (x y : TermId) → has_cut (j (place_in (rows x))) x y ≡ with_cut (with_cut (cut_of rows k) t u forward) u t backward x y
    at x y = by_value (place_in (rows x) == c)
        (λ here. let same : place_in (rows x) ≡ c = grind (arith, common_steps) in
        with_value (place_in (rows x)) x y ∙ rw (here, same) (set_has t u forward backward (k c) x y sets.differ))
        (λ other. with_value (place_in (rows x)) x y ∙ rw other
        (sym (with_cut_elsewhere (with_cut (cut_of rows k) t u forward) u t backward x y (elsewhere x u other sets.second) ∙ with_cut_elsewhere (cut_of rows k) t u forward x y (elsewhere x t other sets.first))))

pub tied_set : (rows : TermId → Option Row) (m : ℕ → Option (List TermId)) (k j : ℕ → Option (List Cut)) (t u : TermId) (forward backward : Bool) (c : ℕ) → Sets rows k j t u forward backward c →
    IsTied rows m k → IsTied rows m j
tied_set rows m k j t u forward backward c sets tied = record {
  stands = tied.stands;
  not_empty = tied.not_empty;
  once = tied.once;
  inside = λ d x y h. inside d x y h;
}
  where
    stands : (v x : TermId) (d : ℕ) → place_in (rows v) ≡ c → same_term x v ≡ true → d ≡ c → stands_in rows d x ≡ true
    stands v x d there e same = rw (same_is x v e, same) (stands_from rows c v sets.not_null there)

    inside : (d : ℕ) (x y : TermId) → has_cut (j d) x y ≡ true → (stands_in rows d x ≡ true) × (stands_in rows d y ≡ true)
    inside d x y h =
        let at : has_cut (if d == c then Some (set_between t u forward backward (listed (k c))) else k d) x y ≡ true = ap (λ (g : Option (List Cut)). has_cut g x y) (sym (sets.cuts d)) ∙ h in
        by_value (d == c)
        (λ e. let same : d ≡ c = grind (arith, common_steps) in
        let here : has_cut (Some (set_between t u forward backward (listed (k c)))) x y ≡ true = rw e at at in
        let set : with_cut (with_cut (has_cut (k c)) t u forward) u t backward x y ≡ true = sym (set_has t u forward backward (k c) x y sets.differ) ∙ here in
        by_value (same_term x u && same_term y t)
        (λ two. let parts = and_parts (same_term x u) (same_term y t) two in (stands u x d sets.second parts.0 same, stands t y d sets.first parts.1 same))
        (λ not_two. by_value (same_term x t && same_term y u)
        (λ one. let parts = and_parts (same_term x t) (same_term y u) one in (stands t x d sets.first parts.0 same, stands u y d sets.second parts.1 same))
        (λ not_one. let old : has_cut (k c) x y ≡ true = rw (not_two, not_one) at set in rw same (tied.inside c x y old))))
        (λ e. let here : has_cut (k d) x y ≡ true = rw e at at in tied.inside d x y here)

-- nothing is cut of what stands in no context
pub cut_of_none : (rows : TermId → Option Row) (m : ℕ → Option (List TermId)) (k : ℕ → Option (List Cut)) → IsTied rows m k → (t : TermId) → place_in (rows t) ≡ 0 →
    cut_of rows k ≡ without_cuts (same_term t) (cut_of rows k)
cut_of_none rows m k tied t null = λ i x y. at x y i
  where
    at : (x y : TermId) → has_cut (k (place_in (rows x))) x y ≡ without_cuts (same_term t) (cut_of rows k) x y
    at x y = by_value (same_term t x)
        (λ e. let is = same_is t x e in let there : place_in (rows x) ≡ 0 = rw (← is) null in rw e (not_cut rows m k tied (place_in (rows x)) x y (stands_not rows _ x there)))
        (λ e. by_value (same_term t y)
        (λ f. let is = same_is t y f in let there : place_in (rows y) ≡ 0 = rw (← is) null in
        rw (e, f) (by_value (has_cut (k (place_in (rows x))) x y)
        (λ h. not_both (stands_in rows (place_in (rows x)) y) (tied.inside (place_in (rows x)) x y h).1 (stands_not rows _ y there))
        (λ h. h)))
        (λ f. rw (e, f) refl))

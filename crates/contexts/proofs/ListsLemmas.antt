-- Numbers in rising order that pass a test.
use Rattle.std.proofs.Common.{◌≡◌, ◌≢◌, ℕ, zero, suc, ◌<◌, ◌==◌, Bool, true, false, ◌&&◌, ◌||◌, IsTrue, is_some, refl, subst, sym, arith, List, [], ◌∷◌, Contains, Option, Some, None, nat_cmp, Less, BTreeSet}
use Rattle.std.proofs.lemmas.Grind.{common_steps}
use Rattle.std.proofs.lemmas.Cmp.{nat_cmp_total}
use Rattle.std.proofs.lemmas.Map.Views.{btree_set_contains_iff}
use Rattle.std.proofs.lemmas.Map.Lookups.{exact_unsigned}
use Rattle.std.proofs.lemmas.Bool.{eqb-true}
use Rattle.std.specs.BTreeSet.{IsOrdered, contains}
use Rattle.std.specs.List.{AllByRecursion}
use Rattle.std.specs.List.Sorted.{IsStrictlySortedBy}
use Rattle.mg_names.specs.declared.identifiers.LineNo.{LineNo}
use Rattle.mg_names.specs.declared.identifiers.TermId.{TermId}
use Rattle.mg_names.specs.declared.identifiers.TermId.TheVariants.{Line, Eph}
use Rattle.mg_model.specs.declared.rows.Row.{Row}
use Rattle.mg_model.specs.Board.{Board, same_term, exists, place_of, place_in}
use Rattle.mg_model.specs.Items.{IsRising, Lists}
use Rattle.mg_model.proofs.Terminations.{same_term_is as same_is}
use Rattle.contexts.specs.BoardValue.{stands_in}
use Rattle.contexts.specs.Steps.{IsTakenOut}
use Rattle.contexts.proofs.ExecLemmas.{no_numbers}
use Rattle.contexts.proofs.TermLemmas.{by_value}
use Rattle.contexts.proofs.MoveLemmas.{is_not}

above_all : (x : ℕ) (xs : List ℕ) → AllByRecursion (λ y. nat_cmp x y ≡ Less) xs → (y : ℕ) → Contains xs y → x < y
above_all x [] all y there = absurd (omega (arith, there.1))
above_all x (z ∷ zs) all y (zero, h, e) = let k : nat_cmp x z ≡ Less = all.0 in let f : z ≡ y = e in grind (arith, common_steps)
above_all x (z ∷ zs) all y (suc k, h, e) = above_all x zs all.1 y (k, omega (arith, h), e)

rising : (xs : List ℕ) → IsStrictlySortedBy nat_cmp xs → IsRising xs
unfolding IsStrictlySortedBy
rising [] h = tt
rising (x ∷ xs) h = (λ y there. above_all x xs h.0 y there, rising xs h.1)

pub lists_keys : (s : BTreeSet ℕ) → IsOrdered nat_cmp s → Lists (λ n. contains nat_cmp s n) s.keys
lists_keys s ordered = record {
  rising = rising s.keys ordered;
  exactly = λ n. let there = btree_set_contains_iff nat_cmp_total exact_unsigned s n in (λ h. there.1 h, λ h. there.0 h);
}

pub lists_same : (f g : ℕ → Bool) (numbers : List ℕ) → ((n : ℕ) → f n ≡ g n) → Lists f numbers → Lists g numbers
lists_same f g numbers same lists = subst (λ (h : ℕ → Bool). Lists h numbers) (λ i n. same n i) lists

-- one that exists is taken out
pub one_leaves : (b : Board) (t u : TermId) → exists b t ≡ true → (same_term u t || false) ≡ (same_term u t && exists b u)
one_leaves b t u there = by_value (same_term u t) (λ e. let is = same_is u t e in let here : exists b u ≡ true = rw is there in rw (e, here) refl) (λ e. rw e refl)

-- all that stand in a context are taken out
pub all_leave : (b : Board) (c : ℕ) (u : TermId) → c ≢ 0 → stands_in b.row c u ≡ ((place_of b u == c) && exists b u)
all_leave b c u not_null = rw (is_not c 0 not_null) (go (b.row u))
  where
    go : (row : Option Row) → (place_in row == c) ≡ ((place_in row == c) && is_some row)
    go None = by_value (0 == c) (λ e. absurd (not_null (sym (eqb-true 0 c e)))) (λ e. rw e refl)
    go (Some row) = by_value (row.place.0 == c) (λ e. rw e refl) (λ e. rw e refl)

-- a list of one number
pub lists_one : (test : ℕ → Bool) (x : ℕ) → ((n : ℕ) → test n ≡ (n == x || false)) → Lists test (x ∷ [])
lists_one test x same = lists_same (λ n. n == x || false) test (x ∷ []) (λ n. sym (same n)) record {
  rising = (λ y there. absurd (omega (arith, there.1)), tt);
  exactly = λ n. (λ there. found n there, λ h. listed n h);
}
  where
    found : (n : ℕ) → Contains (x ∷ []) n → IsTrue (n == x || false)
    found n (zero, h, e) = let is : x ≡ n = e in grind (arith, common_steps)
    found n (suc k, h, e) = absurd (omega (arith, h))

    listed : (n : ℕ) → IsTrue (n == x || false) → Contains (x ∷ []) n
    listed n h = let is : x ≡ n = grind (arith, common_steps) in (zero, omega arith, is)

pub line_leaves : (l : LineNo) → IsTakenOut (Line l ∷ []) (record { context = None; ephemeral = None; lines = l.0 ∷ []; ephemerals = [] })
line_leaves l = record {
  context = refl;
  ephemeral = refl;
  lines = lists_one _ l.0 (λ n. refl);
  ephemerals = no_numbers _ (λ n. refl);
}

pub ephemeral_leaves : (k : ℕ) → IsTakenOut (Eph k ∷ []) (record { context = None; ephemeral = None; lines = []; ephemerals = k ∷ [] })
ephemeral_leaves k = record {
  context = refl;
  ephemeral = refl;
  lines = no_numbers _ (λ n. refl);
  ephemerals = lists_one _ k (λ n. refl);
}

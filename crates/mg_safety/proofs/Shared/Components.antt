-- What the tests of spots, contexts and lists say.
use Rattle.mg_safety.proofs.Words.{◌≡◌, ◌∙◌, ℕ, Bool, true, refl, ap, eq-eqb, ContextValue, Live, Stale, Spot, In, is_in, is_free, value_of, ◌&&◌, List, Lists}
use Rattle.mg_safety.proofs.Words.{is_listed, Some, same_test, Any-from_list_any, subst, Contains, eqb-true, list_any_at, get_or, ◌==◌, false, same_itself}
use Rattle.mg_safety.proofs.Words.{none_is_some, None, Option, TermId, Eph, the_some, sym, Board}
use Rattle.mg_safety.proofs.InvariantWords.{eph_of, cut_on}

pub is_in_self : (spot : Spot) (j : ℕ) → spot ≡ In j → is_in spot j ≡ true
is_in_self spot j e = ap (λ s. is_in s j) e ∙ same_itself j

-- a name that is bound or free stays so, whatever stands in it
pub free_as_before : (v : ContextValue) (live : Bool) → is_free (value_of v live) ≡ is_free v
free_as_before Live true = refl
free_as_before Stale true = refl
free_as_before v live = refl

pub and_true : (x y : Bool) → y ≡ true → (x && y) ≡ x
and_true true y e = e
and_true false y e = refl

-- a number is in a list of those that pass a test exactly where it passes
pub listed_test : (test : ℕ → Bool) (numbers : List ℕ) → Lists test numbers → (n : ℕ) → is_listed numbers (Some n) ≡ test n
listed_test test numbers lists n = same_test (is_listed numbers (Some n)) (test n)
    (λ listed. let any = Any-from_list_any (λ other. other == n) numbers listed in
    (lists.exactly n).0 (subst (λ y. Contains numbers y) (eqb-true any.1 n any.4) (any.0, any.2, any.3)))
    (λ passes. let among = (lists.exactly n).1 passes in
    list_any_at (λ other. other == n) numbers among.0 n among.1 (eq-eqb (get_or numbers among.0 n) n among.2))

-- what a name of an ephemeral stands for is an ephemeral
pub eph_is : (o : Option ℕ) (u : TermId) → eph_of o ≡ Some u → (x : ℕ) × (o ≡ Some x) × (u ≡ Eph x)
eph_is None u e = absurd (none_is_some u e)
eph_is (Some x) u e = (x, refl, sym (the_some (Eph x) u e))

-- what is named isn't cut from what isn't
pub no_second : (b : Board) (o : Option TermId) → cut_on b o None ≡ false
no_second b None = refl
no_second b (Some v) = refl

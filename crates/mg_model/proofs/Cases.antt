-- Cases of tests and options: what a test says of its parts, what stands where a test holds, and what an equation of options says.
use Rattle.std.proofs.Common.{◌≡◌, ◌∙◌, ℕ, Bool, true, false, Option, Some, None, is_some, refl, sym, ap, true≢false}
use Rattle.std.specs.Prelude.{◌==◌, ◌&&◌, ◌||◌, IsTrue, if◌then◌else◌, not, unwrap_or}
use Rattle.std.proofs.lemmas.Bool.{eqb-true, eq-eqb, and_parts, and_from, false_from_ne_true}

-- ---- tests

pub false_not_true : false ≡ true → ⊥
false_not_true e = true≢false (sym e)

pub not_both : {b : Bool} → b ≡ true → b ≡ false → ⊥
not_both is never = true≢false (sym is ∙ never)

pub denied : (p : Bool) → not p ≡ true → p ≡ false
denied true e = absurd (false_not_true e)
denied false e = refl

-- what a refusal that doesn't apply says
pub not_refused : (p : Bool) → (IsTrue (not p) → ⊥) → p ≡ true
not_refused true no_refusal = refl
not_refused false no_refusal = absurd (no_refusal refl)

pub neither_first : (p q : Bool) → (IsTrue (p || q) → ⊥) → IsTrue p → ⊥
neither_first true q no_refusal e = no_refusal refl
neither_first false q no_refusal e = false_not_true e

pub neither_second : (p q : Bool) → (IsTrue (p || q) → ⊥) → IsTrue q → ⊥
neither_second true q no_refusal e = no_refusal refl
neither_second false q no_refusal e = no_refusal e

pub and_first : (p q : Bool) → (p && q) ≡ true → p ≡ true
and_first p q e = (and_parts p q e).0

pub and_second : (p q : Bool) → (p && q) ≡ true → q ≡ true
and_second p q e = (and_parts p q e).1

pub three_parts : (p q r : Bool) → IsTrue (p && q && r) → (IsTrue p) × (IsTrue q) × (IsTrue r)
three_parts p q r e =
    let first = and_parts p q (and_first (p && q) r e) in
    (first.0, first.1, and_second (p && q) r e)

pub all_three : (p q r : Bool) → p ≡ true → q ≡ true → r ≡ true → IsTrue (p && q && r)
all_three p q r first second third = and_from (p && q) r (and_from p q first second) third

-- two tests of which each implies the other are one
pub same_test : (p q : Bool) → (p ≡ true → q ≡ true) → (q ≡ true → p ≡ true) → p ≡ q
same_test true q onward back = sym (onward refl)
same_test false true onward back = back refl
same_test false false onward back = refl

pub same_itself : (n : ℕ) → (n == n) ≡ true
same_itself n = eq-eqb n n refl

pub same_turned : (i j : ℕ) → (i == j) ≡ (j == i)
same_turned i j = same_test (i == j) (j == i) (λ e. eq-eqb j i (sym (eqb-true i j e))) (λ e. eq-eqb i j (sym (eqb-true j i e)))

pub different : (a b : ℕ) → (a ≡ b → ⊥) → (a == b) ≡ false
different a b never = false_from_ne_true (a == b) (λ e. never (eqb-true a b e))

-- ---- what a test chooses

pub false_either_way : (p : Bool) → (if p then false else false) ≡ false
false_either_way true = refl
false_either_way false = refl

pub where_true : {A : Type 0} (p : Bool) (x y : A) → p ≡ true → (if p then x else y) ≡ x
where_true true x y e = refl
where_true false x y e = absurd (true≢false (sym e))

pub where_false : {A : Type 0} (p : Bool) (x y : A) → p ≡ false → (if p then x else y) ≡ y
where_false true x y e = absurd (true≢false e)
where_false false x y e = refl

-- a function that was changed at one number, there and at another
pub at_one : {A : Type 0} (one : ℕ) (new old : A) → (if one == one then new else old) ≡ new
at_one one new old = where_true (one == one) new old (eq-eqb one one refl)

pub at_another : {A : Type 0} (one other : ℕ) (new old : A) → (other ≡ one → ⊥) → (if other == one then new else old) ≡ old
at_another one other new old apart = where_false (other == one) new old (different other one apart)

-- what holds of both choices of a test
pub by_test : {A : Type 0} (P : A → Type 0) (x y : A) (test : Bool) → (test ≡ true → P x) → (test ≡ false → P y) → P (if test then x else y)
by_test P x y true first second = first refl
by_test P x y false first second = second refl

-- ---- options

pub the_some : {A : Type 0} (x y : A) → Some x ≡ Some y → x ≡ y
the_some x y e = ap (λ o. unwrap_or o x) e

pub none_is_some : {A : Type 0} (x : A) → None ≡ Some x → ⊥
none_is_some x e = true≢false (sym (ap is_some e))

pub some_is_none : {A : Type 0} (x : A) → Some x ≡ None → ⊥
some_is_none x e = none_is_some x (sym e)

pub some_of : {A : Type 0} (o : Option A) → is_some o ≡ true → (x : A) × (o ≡ Some x)
some_of None e = absurd (false_not_true e)
some_of (Some x) e = (x, refl)

pub none_of : {A : Type 0} (o : Option A) → is_some o ≡ false → o ≡ None
none_of None e = refl
none_of (Some x) e = absurd (true≢false e)

-- A class of numbers: each key has a number of the class, each number of the class a key, and the keys below the size have the
-- numbers up to the last one.
use Rattle.std.proofs.Common.{◌≡◌, ℕ, ◌+◌, ◌-◌, ◌*◌, ◌/◌, ◌%◌, ◌<◌, ◌≤◌, ◌↔◌, ◌⊎◌, ◌∙◌, inl, inr, true, refl, sym, ap, arith, Some, None, eqb, ltb}
use Rattle.std.proofs.Math.Nat.{le-div_iff_mul-le, mul-lt-mul_of_pos_right, mul-le-mul_right}
use Rattle.std.proofs.lemmas.Nat.{mod-mul-add, div-mul-add, div-add-mod'}
use Rattle.std.proofs.lemmas.Bool.{lt-ltb, ltb-true, eq-eqb, eqb-true, and_from, and_parts, cases_eq, cond-true, cond-false, ne_eqb, cases_Bool}
use Rattle.identifiers.specs.declared.class.Class.{Class}
use Rattle.identifiers.specs.Class.{is_number, key_of, number_at, key_in, size, skipped}

-- the two cases of what is skipped
skipped_cases : (first : ℕ) → ((first ≡ 0) × (skipped first ≡ 1)) ⊎ ((first ≡ 0 → ⊥) × (skipped first ≡ 0))
skipped_cases first =
    elim (cases_eq first 0) [
      | inl same ↦ inl (same, cond-true (eqb first 0) 1 0 (eq-eqb first 0 same))
      | inr differs ↦ inr (differs, cond-false (eqb first 0) 1 0 (ne_eqb first 0 differs))
    ]

-- a number that is given is above 0
above_none : (class : Class) (key : ℕ) → class.first < class.stride → 0 < number_at class key
above_none class key is_class =
    elim (skipped_cases class.first) [
      | inl zero_first ↦
          let one : 1 ≤ key + skipped class.first = omega (arith, zero_first.1) in
          let more : 1 * class.stride ≤ (key + skipped class.first) * class.stride = mul-le-mul_right class.stride one in
          omega (arith, more)
      | inr other ↦ omega (arith, other.0)
    ]

pub is_number-number_at : (class : Class) (key : ℕ) → class.first < class.stride → is_number class (number_at class key) ≡ true
is_number-number_at class key is_class =
    and_from _ _ (lt-ltb 0 _ (above_none class key is_class)) (eq-eqb _ _ (mod-mul-add (key + skipped class.first) class.stride class.first is_class))

pub key_of-number_at : (class : Class) (key : ℕ) → class.first < class.stride → key_of class (number_at class key) ≡ key
key_of-number_at class key is_class =
    let quotient = div-mul-add (key + skipped class.first) class.stride class.first is_class in
    let s = skipped class.first in
    rw quotient (let e : key + s - s ≡ key = omega arith in e)

-- what a number of the class is
number_facts : (class : Class) (n : ℕ) → is_number class n ≡ true → (0 < n) × (n % class.stride ≡ class.first)
number_facts class n is =
    let parts = and_parts (ltb 0 n) (eqb (n % class.stride) class.first) is in
    (ltb-true 0 n parts.0, eqb-true _ _ parts.1)

pub number_at-key_of : (class : Class) (n : ℕ) → is_number class n ≡ true → number_at class (key_of class n) ≡ n
number_at-key_of class n is =
    let facts = number_facts class n is in
    let whole : n / class.stride * class.stride + n % class.stride ≡ n = div-add-mod' n class.stride in
    elim (skipped_cases class.first) [
      | inl zero_first ↦
          let some : n / class.stride - skipped class.first + skipped class.first ≡ n / class.stride =
          elim (cases_eq (n / class.stride) 0) [
            | inl none ↦
                let product : n / class.stride * class.stride ≡ 0 = rw none (omega arith) in
                absurd (omega (arith, product, whole, facts.0, facts.1, zero_first.0))
            | inr differs ↦ omega (arith, differs, zero_first.1)
          ] in
          rw (some, ← facts.1) whole
      | inr other ↦
          let some : n / class.stride - skipped class.first + skipped class.first ≡ n / class.stride = omega (arith, other.1) in
          rw (some, ← facts.1) whole
    ]

pub within_iff : (class : Class) (key : ℕ) → class.first < class.stride → (key < size class) ↔ (number_at class key ≤ class.last)
within_iff class key is_class =
    let s = skipped class.first in
    let next : (key + s + 1) * class.stride ≡ (key + s) * class.stride + class.stride = omega arith in
    let iff = le-div_iff_mul-le {k = class.stride} {x = key + s + 1} {y = class.last + class.stride - class.first} (omega arith) in (
      λ below.
          let within : key + s + 1 ≤ (class.last + class.stride - class.first) / class.stride = omega (arith, below) in
          let h = iff.0 within in omega (arith, h, next),
      λ within.
          let h : (key + s + 1) * class.stride ≤ class.last + class.stride - class.first = omega (arith, within, next) in
          let k = iff.1 h in omega (arith, k),
    )

pub number_at-rises : (class : Class) (j k : ℕ) → class.first < class.stride → j < k → number_at class j < number_at class k
number_at-rises class j k is_class below =
    let s = skipped class.first in
    let more : (j + s) * class.stride < (k + s) * class.stride = mul-lt-mul_of_pos_right (omega arith) (omega arith) in
    omega (arith, more)

-- two numbers of the class with one key are one
pub one_number : (class : Class) (m n : ℕ) → is_number class m ≡ true → is_number class n ≡ true → key_of class m ≡ key_of class n → m ≡ n
one_number class m n is_m is_n same = sym (number_at-key_of class m is_m) ∙ ap (number_at class) same ∙ number_at-key_of class n is_n

-- what a key that is found tells
pub key_in_some : (class : Class) (n key : ℕ) → key_in class n ≡ Some key → (is_number class n ≡ true) × (key_of class n ≡ key)
key_in_some class n key found =
    elim (cases_Bool (is_number class n)) [
      | inl is ↦ let e = cond-true (is_number class n) (Some (key_of class n)) None is in (is, cc)
      | inr not_one ↦ let e = cond-false (is_number class n) (Some (key_of class n)) None not_one in absurd (cc)
    ]

pub key_in-number_at : (class : Class) (key : ℕ) → class.first < class.stride → key_in class (number_at class key) ≡ Some key
key_in-number_at class key is_class = rw (is_number-number_at class key is_class, key_of-number_at class key is_class) refl

-- Messages that are numbered on: each stands at the place of its number, and one more with the next number is numbered on too.
use Rattle.std.proofs.Common.{◌≡◌, ◌∙◌, ◌+◌, ◌-◌, ◌==◌, ◌++◌, ℕ, suc, Bool, true, false, List, [], ◌∷◌, length, map, Option, Some, None, if◌then◌else◌, reverse, eqb-true, refl, sym, ap, subst, arith}
use Rattle.std.specs.Prelude.{nat_le, slice_get}
use Rattle.std.specs.Option.{option_or}
use Rattle.std.proofs.lemmas.Bool.{eqb-false}
use Rattle.std.specs.List.{find}
use Rattle.std.proofs.lemmas.Bool.Decides.{nat_tests}
use Rattle.std.proofs.lemmas.List.{reverse-append, map-append, length-map}
use Rattle.std.proofs.lemmas.List.Folds.{find-append}
use Rattle.mg_model.specs.Messages.{Request, SentNote}
use Rattle.shards.specs.Messages.{AreNumberedFrom, placed, request_numbers, note_numbers}

-- ---- more of them

pub numbered_append : (first : ℕ) (one other : List ℕ) → AreNumberedFrom first one → AreNumberedFrom (first + length one) other → AreNumberedFrom first (one ++ other)
numbered_append first [] other of_one of_other = subst (λ n. AreNumberedFrom n other) (omega arith) of_other
numbered_append first (n ∷ more) other of_one of_other =
    (of_one.0, numbered_append (first + 1) more other of_one.1 (subst (λ n. AreNumberedFrom n other) (omega arith) of_other))

-- ---- by number

reached : (first n : ℕ) → first ≡ n → nat_le first n ≡ true
reached first n here = grind (arith, nat_tests)

none_left : (first n : ℕ) → first ≡ n → n - first ≡ 0
none_left first n here = omega (arith, here)

after : (first n : ℕ) → nat_le first n ≡ true → (first ≡ n → ⊥) → nat_le (first + 1) n ≡ true
after first n later other = grind (arith, nat_tests)

before : (first n : ℕ) → nat_le first n ≡ false → nat_le (first + 1) n ≡ false
before first n earlier = grind (arith, nat_tests)

passed : (first n : ℕ) → first ≡ n → nat_le (first + 1) n ≡ false
passed first n here = grind (arith, nat_tests)

one_less : (first n : ℕ) → nat_le (first + 1) n ≡ true → n - first ≡ suc (n - (first + 1))
one_less first n past = grind (arith, nat_tests)

module _ {A : Type 0} (number : A → ℕ) where
  nothing : (first n : ℕ) → None ≡ placed {A = A} first [] n
  nothing first n = by_order (nat_le first n)
    where
      by_order : (order : Bool) → None ≡ (if order then slice_get {X = A} [] (n - first) else None)
      by_order true = refl
      by_order false = refl

  abbrev has_number : ℕ → A → Bool
  has_number n a = number a == n

  -- the one with the first number, before the others
  at_first : (first n : ℕ) (a : A) (more : List A) → number a ≡ first → placed first (a ∷ more) n ≡ (if number a == n then Some a else placed (first + 1) more n)
  at_first first n a more is = by_test (number a == n) refl
    where
      by_test : (same : Bool) → (number a == n) ≡ same → placed first (a ∷ more) n ≡ (if same then Some a else placed (first + 1) more n)
      by_test true e =
          let here : first ≡ n = sym is ∙ eqb-true (number a) n e in
          rw (reached first n here, none_left first n here) refl
      by_test false e = by_order (nat_le first n) refl
        where
          other : first ≡ n → ⊥
          other here = eqb-false (number a) n e (is ∙ here)

          by_order : (order : Bool) → nat_le first n ≡ order → (if order then slice_get (a ∷ more) (n - first) else None) ≡ placed (first + 1) more n
          by_order true later =
              let past = after first n later other in
              rw (past, one_less first n past) refl
          by_order false earlier = rw (before first n earlier) refl

  either : (first n : ℕ) (a : A) (more : List A) → number a ≡ first
      → option_or (placed (first + 1) more n) (if number a == n then Some a else None) ≡ (if number a == n then Some a else placed (first + 1) more n)
  either first n a more is = by_test (number a == n) refl
    where
      by_none : (o : Option A) → option_or o None ≡ o
      by_none None = refl
      by_none (Some b) = refl

      by_test : (same : Bool) → (number a == n) ≡ same
          → option_or (placed (first + 1) more n) (if same then Some a else None) ≡ (if same then Some a else placed (first + 1) more n)
      by_test true e = rw (passed first n (sym is ∙ eqb-true (number a) n e)) refl
      by_test false e = by_none (placed (first + 1) more n)

  pub found_last : (first n : ℕ) (messages : List A) → AreNumberedFrom first (map number messages) → find (has_number n) (reverse messages) ≡ placed first messages n
  found_last first n [] numbered = nothing first n
  found_last first n (a ∷ more) numbered =
      ap (find (has_number n)) (reverse-append (a ∷ []) more) ∙ find-append (has_number n) (reverse more) (a ∷ [])
      ∙ ap (λ o. option_or o (if number a == n then Some a else None)) (found_last (first + 1) n more numbered.1)
      ∙ either first n a more numbered.0 ∙ sym (at_first first n a more numbered.0)

  pub found : (first n : ℕ) (messages : List A) → AreNumberedFrom first (map number messages) → find (has_number n) messages ≡ placed first messages n
  found first n [] numbered = nothing first n
  found first n (a ∷ more) numbered =
      ap (λ o. if number a == n then Some a else o) (found (first + 1) n more numbered.1) ∙ sym (at_first first n a more numbered.0)

  -- ---- messages

  pub numbered_on : (first : ℕ) (one other : List A) → AreNumberedFrom first (map number one) → AreNumberedFrom (first + length one) (map number other)
      → AreNumberedFrom first (map number (one ++ other))
  numbered_on first one other of_one of_other =
      subst (AreNumberedFrom first) (sym (map-append number one other)) (numbered_append first (map number one) (map number other) of_one
      (subst (λ n. AreNumberedFrom (first + n) (map number other)) (sym (length-map one number)) of_other))

pub request_found : (first n : ℕ) (requests : List Request) → AreNumberedFrom first (request_numbers requests) → find (λ r. r.number == n) (reverse requests) ≡ placed first requests n
request_found first n requests numbered = found_last (λ (r : Request). r.number) first n requests numbered

pub note_found : (n : ℕ) (notes : List SentNote) → AreNumberedFrom 1 (note_numbers notes) → find (λ m. m.number == n) notes ≡ placed 1 notes n
note_found n notes numbered = found (λ (m : SentNote). m.number) 1 n notes numbered

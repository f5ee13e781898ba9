-- A word gets a bit for the number of each value of a list.
use Rattle.std.proofs.Common.{◌≡◌, ◌⊎◌, inl, inr, ℕ, zero, suc, ◌+◌, ◌*◌, ◌%◌, ◌^◌, ◌<◌, ◌==◌, ◌↔◌, Bool, true, false, ◌||◌, List, [], ◌∷◌, Contains, length, drop, drop-cons, add-one, refl, sym, ap, ◌∙◌, subst, arith}
use Rattle.std.specs.List.{slice_index_or}
use Rattle.std.specs.Int.RustNames.{bit_or}
use Rattle.std.proofs.lemmas.Grind.{common_steps}
use Rattle.configuration.specs.Bits.{has}
use Rattle.configuration.proofs.BitLemmas.{has_or, has_one, has_none}

-- what is left begins with the element at the place
pub at : {X : Type 0} (xs : List X) (i : ℕ) (x : X) → i < length xs → x ≡ slice_index_or xs i x → drop i xs ≡ x ∷ drop (i + 1) xs
at xs i x lt is = drop-cons xs i x lt ∙ ap (λ y. y ∷ drop (suc i) xs) (sym is) ∙ ap (λ k. x ∷ drop k xs) (sym (add-one i))

contains_here : {X : Type 0} (x y : X) (xs : List X) → x ≡ y → Contains (x ∷ xs) y
contains_here x y xs e = (0, omega arith, e)

contains_later : {X : Type 0} (x y : X) (xs : List X) → Contains xs y → Contains (x ∷ xs) y
contains_later x y xs (k, l, e) = (suc k, omega arith, e)

contained : {X : Type 0} (x y : X) (xs : List X) → Contains (x ∷ xs) y → (x ≡ y) ⊎ Contains xs y
contained x y xs (zero, l, e) = inl e
contained x y xs (suc k, l, e) = inr (k, omega arith, e)

-- a value of the list has the number exactly where the bit is set, or it is still to come
abbrev pub IsNumbered : {X : Type 0} → (X → ℕ) → (ℕ → X) → List X → ℕ → List X → Type 0
IsNumbered code value_at all bits left =
    (n : ℕ) → n < 64 → code (value_at n) ≡ n → ((has bits n ≡ true) ⊎ Contains left (value_at n)) ↔ Contains all (value_at n)

pub none_numbered : {X : Type 0} (code : X → ℕ) (value_at : ℕ → X) (all : List X) → IsNumbered code value_at all 0 all
none_numbered code value_at all n l e = (λ some. by_side some, λ c. inr c)
  where
    by_side : ((has 0 n ≡ true) ⊎ Contains all (value_at n)) → Contains all (value_at n)
    by_side (inl h) = let bad : true ≡ false = sym h ∙ has_none n in absurd (cc)
    by_side (inr c) = c

pub one_numbered : {X : Type 0} (code : X → ℕ) (value_at : ℕ → X) (all left : List X) (bits : ℕ) (x : X) (number : ℕ) →
    number ≡ code x → number < 64 → value_at (code x) ≡ x → IsNumbered code value_at all bits (x ∷ left) →
    IsNumbered code value_at all (bit_or bits (1 * 2 ^ number % 2 ^ 64)) left
one_numbered code value_at all left bits x number is small back were n l e =
    (λ some. (were n l e).0 (before some), λ c. after ((were n l e).1 c))
  where
    more : ℕ
    more = bit_or bits (1 * 2 ^ number % 2 ^ 64)

    bit : has more n ≡ (has bits n || n == number)
    bit = has_or bits (1 * 2 ^ number % 2 ^ 64) n ∙ ap (λ b. has bits n || b) (has_one number n small)

    same : n ≡ number → x ≡ value_at n
    same p = sym back ∙ ap value_at (sym (p ∙ is))

    by_bits : (b d : Bool) → has bits n ≡ b → (n == number) ≡ d → (b || d) ≡ true →
        (has bits n ≡ true) ⊎ Contains (x ∷ left) (value_at n)
    by_bits true d p q r = inl p
    by_bits false true p q r = inr (contains_here x (value_at n) left (same (grind (arith, common_steps))))
    by_bits false false p q r = absurd (cc)

    before : ((has more n ≡ true) ⊎ Contains left (value_at n)) → (has bits n ≡ true) ⊎ Contains (x ∷ left) (value_at n)
    before (inl h) = by_bits (has bits n) (n == number) refl refl (sym bit ∙ h)
    before (inr c) = inr (contains_later x (value_at n) left c)

    either : (b d : Bool) → d ≡ true → (b || d) ≡ true
    either true d p = refl
    either false d p = p

    first : (b d : Bool) → b ≡ true → (b || d) ≡ true
    first b d p = ap (λ c. c || d) p

    found : ((x ≡ value_at n) ⊎ Contains left (value_at n)) → (has more n ≡ true) ⊎ Contains left (value_at n)
    found (inl p) =
        let q : n ≡ number = sym e ∙ ap code (sym p) ∙ sym is in
        let d : (n == number) ≡ true = grind (arith, common_steps) in
        inl (bit ∙ either (has bits n) (n == number) d)
    found (inr c) = inr c

    after : ((has bits n ≡ true) ⊎ Contains (x ∷ left) (value_at n)) → (has more n ≡ true) ⊎ Contains left (value_at n)
    after (inl h) = inl (bit ∙ first (has bits n) (n == number) h)
    after (inr c) = found (contained x (value_at n) left c)

pub all_numbered : {X : Type 0} (code : X → ℕ) (value_at : ℕ → X) (all left : List X) (bits : ℕ) → left ≡ [] →
    IsNumbered code value_at all bits left →
    (n : ℕ) → n < 64 → code (value_at n) ≡ n → (has bits n ≡ true) ↔ Contains all (value_at n)
all_numbered code value_at all left bits none were n l e =
    (λ h. (were n l e).0 (inl h), λ c. by_side ((were n l e).1 c))
  where
    by_side : ((has bits n ≡ true) ⊎ Contains left (value_at n)) → has bits n ≡ true
    by_side (inl h) = h
    by_side (inr c) = nothing (subst (λ xs. Contains xs (value_at n)) none c)
      where
        nothing : {A : Type 0} → Contains [] (value_at n) → A
        nothing (k, l, e) = absurd (omega arith)

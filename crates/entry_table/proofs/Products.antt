-- Choices by their places, and products.
use Rattle.std.proofs.Common.{◌≡◌, ◌∙◌, ◌-◌, ◌*◌, ◌/◌, ◌^◌, ◌<◌, ◌≤◌, ℕ, zero, suc, List, [], ◌∷◌, length, map, refl, sym, ap, arith, min}
use Rattle.std.proofs.Common.{inl, inr, mul-zero, zero-mul}
use Rattle.std.proofs.lemmas.Bool.{cases_lt}
use Rattle.std.proofs.Math.Nat.{mul-div_cancel_left, mul-le-mul_left, mul_assoc}
use Rattle.std.specs.List.{slice_index_or}

module _ {A B : Type 0} (f : A → B) where
  pub choice_at : (values : List A) (i : ℕ) (v : A) (d : B) → i < length values → v ≡ slice_index_or values i v
      → slice_index_or (map f values) i d ≡ f v
  choice_at [] i v d lt is = absurd (omega arith)
  choice_at (x ∷ values) zero v d lt is = ap f (sym is)
  choice_at (x ∷ values) (suc i) v d lt is = choice_at values i v d (omega arith) is

  pub no_choice : (values : List A) (i : ℕ) (d : B) → length values ≤ i → slice_index_or (map f values) i d ≡ d
  no_choice [] i d past = refl
  no_choice (x ∷ values) zero d past = absurd (omega arith)
  no_choice (x ∷ values) (suc i) d past = no_choice values i d (omega arith)

-- ---- products

pub factors : (n p r : ℕ) → r ≡ n * p → 0 < r → (0 < n) × (0 < p) × (r / n ≡ p)
factors zero p r is some = let none : r ≡ 0 = is ∙ zero-mul p in absurd (omega arith)
factors (suc n) zero r is some = let none : r ≡ 0 = is ∙ mul-zero (suc n) in absurd (omega arith)
factors (suc n) (suc p) r is some =
    let positive : 0 < suc n = omega arith in
    (positive, omega arith, ap (λ k. k / suc n) is ∙ mul-div_cancel_left (suc p) positive)

-- the last number of 64 bits
abbrev last : ℕ
last = 2 ^ 64 - 1

capped : (a b : ℕ) → b ≤ a → min a b ≡ b
capped a b h = omega arith

within : (a b : ℕ) → a ≤ b → min a b ≡ a
within a b h = omega arith

at_least : (a b : ℕ) → a ≤ a * suc b
at_least a b = let e = mul-le-mul_left a (le_of_zero b) in omega (arith, e)
  where
    le_of_zero : (b : ℕ) → 1 ≤ suc b
    le_of_zero b = omega arith

pub capped_step : (m a b p : ℕ) → min (min (a * b) m * p) m ≡ min (a * (b * p)) m
capped_step m a b p = elim (cases_lt m (a * b)) [
  | inl above ↦ over p above
  | inr inside ↦ ap (λ x. min (x * p) m) (within (a * b) m inside) ∙ ap (λ x. min x m) (mul_assoc a b p)
]
  where
    over : (p : ℕ) → m < a * b → min (min (a * b) m * p) m ≡ min (a * (b * p)) m
    over zero above = ap (λ x. min x m) (mul-zero (min (a * b) m)) ∙ ap (λ x. min x m) (sym (ap (λ x. a * x) (mul-zero b) ∙ mul-zero a))
    over (suc p) above =
        let low = at_least m p in
        let high = at_least (a * b) p in
        let whole : m ≤ a * (b * suc p) = rw (← mul_assoc a b (suc p)) (omega (arith, high)) in
        ap (λ x. min (x * suc p) m) (capped (a * b) m (omega arith)) ∙ capped (m * suc p) m (omega (arith, low)) ∙ sym (capped (a * (b * suc p)) m whole)

pub times_one : (m n : ℕ) → n ≤ m → n ≡ min (n * 1) m
times_one m n small = omega arith

-- ---- what holds of each element of a list that is seen

module _ {A B : Type 0} (f : A → B) (P : B → Type 0) where
  pub seen_all : (xs : List A) → ((k : ℕ) (d : A) → k < length xs → P (f (slice_index_or xs k d)))
      → (k : ℕ) (d : B) → k < length (map f xs) → P (slice_index_or (map f xs) k d)
  seen_all [] h k d lt = absurd (omega arith)
  seen_all (x ∷ xs) h zero d lt = h 0 x (omega arith)
  seen_all (x ∷ xs) h (suc k) d lt = seen_all xs (λ j e below. h (suc j) e (omega arith)) k d (omega arith)

  pub all_seen : (xs : List A) → ((k : ℕ) (d : B) → k < length (map f xs) → P (slice_index_or (map f xs) k d))
      → (k : ℕ) (d : A) → k < length xs → P (f (slice_index_or xs k d))
  all_seen [] h k d lt = absurd (omega arith)
  all_seen (x ∷ xs) h zero d lt = h 0 (f x) (omega arith)
  all_seen (x ∷ xs) h (suc k) d lt = all_seen xs (λ j e below. h (suc j) e (omega arith)) k d (omega arith)

-- what fits 32 bits is no number that 64 bits cut off
pub fitting : (n size : ℕ) → n < 2 ^ 32 → size ≡ min n (2 ^ 64 - 1) → size ≡ n
fitting n size small is = omega (arith, small, is)

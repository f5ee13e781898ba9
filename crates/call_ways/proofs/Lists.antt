-- Elements of a list by their places, of two lists one behind the other, and of a part of a list.
use Rattle.std.proofs.Common.{◌≡◌, ◌∙◌, ◌⊎◌, inl, inr, ℕ, zero, suc, ◌+◌, ◌<◌, List, [], ◌∷◌, ◌++◌, Some, length, map, take, refl, sym, ap, arith, Contains}
use Rattle.std.specs.List.{slice_get}
use Rattle.std.specs.Prelude.{option_map}
use Rattle.std.proofs.lemmas.Option.{none-some, same_Some, slice_get-map, slice_get_read}

pub at_append : {X : Type 0} (xs ys : List X) (n : ℕ) (x : X) → slice_get xs n ≡ Some x → slice_get (xs ++ ys) n ≡ Some x
at_append [] ys n x is = absurd (none-some x is)
at_append (y ∷ xs) ys zero x is = is
at_append (y ∷ xs) ys (suc n) x is = at_append xs ys n x is

pub at_last : {X : Type 0} (xs : List X) (y : X) → slice_get (xs ++ y ∷ []) (length xs) ≡ Some y
at_last [] y = refl
at_last (x ∷ xs) y = at_last xs y

-- what stands in two lists stands in the one or in the other
pub in_append : {X : Type 0} (xs ys : List X) (n : ℕ) (x : X) → slice_get (xs ++ ys) n ≡ Some x
    → (slice_get xs n ≡ Some x) ⊎ ((k : ℕ) × ((n ≡ length xs + k) × (slice_get ys k ≡ Some x)))
in_append [] ys n x is = inr (n, (omega arith, is))
in_append (y ∷ xs) ys zero x is = inl is
in_append (y ∷ xs) ys (suc n) x is =
    elim (in_append xs ys n x is) [
      | inl before ↦ inl before
      | inr behind ↦ inr (behind.0, (omega (arith, behind.1.0), behind.1.1))
    ]

-- what stands in a list of one is that one, and first
one_in : {X : Type 0} (y : X) (k : ℕ) (x : X) → slice_get (y ∷ []) k ≡ Some x → (k ≡ 0) × (y ≡ x)
one_in y zero x is = (refl, same_Some y x is)
one_in y (suc k) x is = absurd (none-some x is)

-- what stands in a list with one more stood there before, or is that one, and last
pub in_push : {X : Type 0} (xs : List X) (y : X) (n : ℕ) (x : X) → slice_get (xs ++ y ∷ []) n ≡ Some x
    → (slice_get xs n ≡ Some x) ⊎ ((n ≡ length xs) × (y ≡ x))
in_push xs y n x is =
    elim (in_append xs (y ∷ []) n x is) [
      | inl before ↦ inl before
      | inr behind ↦ (
          let one = one_in y behind.0 x behind.1.1 in
          inr (omega (arith, behind.1.0, one.0), one.1))
    ]

pub at_contained : {X : Type 0} (xs : List X) (x : X) → Contains xs x → (k : ℕ) × (slice_get xs k ≡ Some x)
at_contained xs x has = (has.0, slice_get_read xs (length xs) has.0 x refl has.1 (sym has.2))

-- what stands in the first of a list stands in it, and among those
pub in_take : {X : Type 0} (n : ℕ) (xs : List X) (k : ℕ) (x : X) → slice_get (take n xs) k ≡ Some x → (k < n) × (slice_get xs k ≡ Some x)
in_take zero xs k x is = absurd (none-some x is)
in_take (suc n) [] k x is = absurd (none-some x is)
in_take (suc n) (y ∷ xs) zero x is = (omega arith, is)
in_take (suc n) (y ∷ xs) (suc k) x is =
    let rest = in_take n xs k x is in
    (omega (arith, rest.0), rest.1)

-- what stands in a list of images is the image of what stands there
pub in_map : {X Y : Type 0} (f : X → Y) (xs : List X) (n : ℕ) (y : Y) → slice_get (map f xs) n ≡ Some y
    → (x : X) × ((slice_get xs n ≡ Some x) × (f x ≡ y))
in_map f [] n y is = absurd (none-some y is)
in_map f (x ∷ xs) zero y is = (x, (refl, same_Some (f x) y is))
in_map f (x ∷ xs) (suc n) y is = in_map f xs n y is

pub at_map : {X Y : Type 0} (f : X → Y) (xs : List X) (n : ℕ) (x : X) → slice_get xs n ≡ Some x → slice_get (map f xs) n ≡ Some (f x)
at_map f xs n x is = slice_get-map f xs n ∙ ap (option_map f) is

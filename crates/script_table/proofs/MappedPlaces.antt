-- The place of an element of a mapped list, and of a slot.
use Rattle.std.proofs.Common.{◌≡◌, ℕ, suc, not, ◌+◌, ◌<◌, ◌≤◌, arith, List, [], ◌∷◌, length, map, Bool, cond, Option, Some, None, refl, ap, position}
use Rattle.std.specs.Prelude.{IfSome, IsNone, ◌↔◌}
use Rattle.std.specs.List.{prefix_len}

abbrev more : Bool → ℕ → ℕ
more b n = cond b (1 + n) 0

prefix_len-mapped : {A B : Type 0} (p : B → Bool) (f : A → B) (xs : List A) → prefix_len p (map f xs) ≡ prefix_len (λ x. p (f x)) xs
prefix_len-mapped p f [] = refl
prefix_len-mapped p f (x ∷ xs) = ap (more (p (f x))) (prefix_len-mapped p f xs)

length-mapped : {A B : Type 0} (f : A → B) (xs : List A) → length (map f xs) ≡ length xs
length-mapped f [] = refl
length-mapped f (x ∷ xs) = ap (λ n. suc n) (length-mapped f xs)

pub position-mapped : {A B : Type 0} (p : B → Bool) (f : A → B) (xs : List A) → position p (map f xs) ≡ position (λ x. p (f x)) xs
position-mapped p f xs = rw (prefix_len-mapped (λ y. not (p y)) f xs, length-mapped f xs) refl

-- a slot is there below four
pub slot_is : (r : Option ℕ) (place : ℕ) → IfSome r (λ slot. slot ≡ place) → (IsNone r ↔ (4 ≤ place)) → place < 4 → r ≡ Some place
slot_is (Some slot) place value refused small = ap (λ n. Some n) value
slot_is None place value refused small = absurd (let le : 4 ≤ place = refused.0 refl in omega arith)

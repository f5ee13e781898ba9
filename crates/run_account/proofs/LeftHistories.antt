-- Lists whose elements are the same place by place.
use Rattle.std.proofs.Common.{◌≡◌, ◌∙◌, ◌<◌, ℕ, zero, suc, List, [], ◌∷◌, length, map, refl, sym, ap, arith}
use Rattle.std.specs.Prelude.{slice_index_or}

-- what is read of the one list at a place is what is read of the other there
pub record IsReadAlike {X Y Z : Type 0} (f : X → Z) (g : Y → Z) (x : X) (ys : List Y) (k : ℕ) : Type 0 where
  pub other : Y
  pub stands : (d : Y) → slice_index_or ys k d ≡ other
  pub alike : f x ≡ g other

pub read_alike : {X Y Z : Type 0} (f : X → Z) (g : Y → Z) (xs : List X) (ys : List Y) → length xs ≡ length ys
    → ((k : ℕ) (d : X) → k < length ys → IsReadAlike f g (slice_index_or xs k d) ys k) → map f xs ≡ map g ys
read_alike f g [] [] sized each = refl
read_alike f g [] (y ∷ ys) sized each = cc
read_alike f g (x ∷ xs) [] sized each = cc
read_alike f g (x ∷ xs) (y ∷ ys) sized each =
    let first = each zero x (omega arith) in
    let heads : f x ≡ g y = first.alike ∙ ap g (sym (first.stands y)) in
    let tails : map f xs ≡ map g ys = read_alike f g xs ys (omega (arith, sized))
    (λ k d below. let one = each (suc k) d (omega (arith, below)) in record { other = one.other; stands = one.stands; alike = one.alike }) in
    rw (heads, tails) refl

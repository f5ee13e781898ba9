-- There are as many meanings as elements.
use Rattle.std.proofs.Common.{◌≡◌, ℕ, suc, List, [], ◌∷◌, length, refl, sym, ap, ◌∙◌, Option, Some, None}
use Rattle.typed_values.specs.Shape.{◌>>=◌, each}

as_many : {B : Type 0} (o : Option B) (p : Option (List B)) (n : ℕ) (ys : List B) → ((zs : List B) → p ≡ Some zs → length zs ≡ n) → (o >>= λ y. p >>= λ zs. Some (y ∷ zs)) ≡ Some ys → length ys ≡ suc n
as_many None p n ys h e = absurd cc
as_many (Some y) None n ys h e = absurd cc
as_many (Some y) (Some zs) n ys h e =
    let same : y ∷ zs ≡ ys = cc in
    ap (λ (xs : List _). length xs) (sym same) ∙ ap (λ m. suc m) (h zs refl)

pub each_length : {A B : Type 0} (f : A → Option B) (xs : List A) (ys : List B) → each f xs ≡ Some ys → length ys ≡ length xs
each_length f [] ys e =
    let same : [] ≡ ys = cc in
    ap (λ (zs : List _). length zs) (sym same)
each_length f (x ∷ xs) ys e = as_many (f x) (each f xs) (length xs) ys (each_length f xs) e

-- A test over the elements of a mapped list.
use Rattle.std.proofs.Common.{◌≡◌, List, [], ◌∷◌, map, Bool, refl, ap}
use Rattle.std.specs.Prelude.{◌||◌}
use Rattle.std.specs.List.{list_any}

abbrev either : Bool → Bool → Bool
either a b = a || b

pub list_any-mapped : {A B : Type 0} (p : B → Bool) (f : A → B) (xs : List A) → list_any p (map f xs) ≡ list_any (λ x. p (f x)) xs
list_any-mapped p f [] = refl
list_any-mapped p f (x ∷ xs) = ap (either (p (f x))) (list_any-mapped p f xs)

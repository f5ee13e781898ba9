-- The order of claims.
use Rattle.std.proofs.Common.{◌<◌, ℕ, List, [], ◌∷◌, arith, inl, inr}
use Rattle.mg_model.specs.Obligations.{KeyBefore}

-- no claim comes before itself
pub not_before_itself : (xs : List ℕ) → KeyBefore xs xs → ⊥
not_before_itself [] h = h
not_before_itself (x ∷ xs) (inl less) = omega (arith, less)
not_before_itself (x ∷ xs) (inr same) = not_before_itself xs same.1

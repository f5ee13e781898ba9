-- The names that are bound.
use Rattle.std.proofs.Common.{◌≡◌, ℕ, ◌≤◌, suc, zero, Bool, false, [], ◌∷◌, slice_index_or, sym, arith}

-- a table of four that has a function's values, which is false past the fourth
pub four_of : (f : ℕ → Bool) (b₀ b₁ b₂ b₃ : Bool) → b₀ ≡ f 0 → b₁ ≡ f 1 → b₂ ≡ f 2 → b₃ ≡ f 3 →
    ((j : ℕ) → 4 ≤ j → f j ≡ false) → (λ (j : ℕ). slice_index_or (b₀ ∷ b₁ ∷ b₂ ∷ b₃ ∷ []) j false) ≡ f
four_of f b₀ b₁ b₂ b₃ e₀ e₁ e₂ e₃ none = λ i j. at j i
  where
    at : (j : ℕ) → slice_index_or (b₀ ∷ b₁ ∷ b₂ ∷ b₃ ∷ []) j false ≡ f j
    at zero = e₀
    at (suc zero) = e₁
    at (suc (suc zero)) = e₂
    at (suc (suc (suc zero))) = e₃
    at (suc (suc (suc (suc j)))) = sym (none (suc (suc (suc (suc j)))) (omega arith))

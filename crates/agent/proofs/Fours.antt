-- Tables of four, as functions of a slot.
use Rattle.std.proofs.Common.{◌≡◌, ℕ, ◌≤◌, suc, zero, List, [], ◌∷◌, length, slice_index_or, sym, arith}
use Rattle.std.proofs.lemmas.List.{get_or_past}

-- a table of four that has a function's values, which is the same everywhere past the fourth
pub four_of : {A : Type 0} (f : ℕ → A) (d b₀ b₁ b₂ b₃ : A) → b₀ ≡ f 0 → b₁ ≡ f 1 → b₂ ≡ f 2 → b₃ ≡ f 3 →
    ((j : ℕ) → 4 ≤ j → f j ≡ d) → (λ (j : ℕ). slice_index_or (b₀ ∷ b₁ ∷ b₂ ∷ b₃ ∷ []) j d) ≡ f
four_of f d b₀ b₁ b₂ b₃ e₀ e₁ e₂ e₃ none = λ i j. at j i
  where
    at : (j : ℕ) → slice_index_or (b₀ ∷ b₁ ∷ b₂ ∷ b₃ ∷ []) j d ≡ f j
    at zero = e₀
    at (suc zero) = e₁
    at (suc (suc zero)) = e₂
    at (suc (suc (suc zero))) = e₃
    at (suc (suc (suc (suc j)))) = sym (none (suc (suc (suc (suc j)))) (omega arith))

-- a table of at most four is read as its default past the fourth
pub past_four : {A : Type 0} (xs : List A) (j : ℕ) (d : A) → length xs ≤ 4 → 4 ≤ j → slice_index_or xs j d ≡ d
past_four xs j d short past = get_or_past xs j d (omega arith)

-- Numbers are left: 2 and 3, or as many as are wanted from 1 on.
use Rattle.std.proofs.Common.{◌≡◌, ◌+◌, ◌<◌, ◌≤◌, ℕ, zero, suc, List, [], ◌∷◌, length, refl, ap, arith, inl, inr}
use Rattle.std.specs.Prelude.{Contains}
use Rattle.mg_model.specs.Items.{IsRising}
use Rattle.mg_model.specs.Shards.{AreLeft}
use Rattle.mg_model.proofs.Single.{first_or_later, none_in, only_one}
use Rattle.mg_examples.proofs.Finding.{of_both}

pub two_left : (passes : ℕ → Type 0) → passes 2 → passes 3 → AreLeft passes 2
two_left passes second third = record {
  numbers = 2 ∷ 3 ∷ [];
  rising = ((λ y among. let is = only_one 3 y among in omega (arith, is)), ((λ y among. absurd (none_in y among)), tt));
  enough = omega (arith);
  each = λ n among. of_both passes 2 3 n second third among;
}

-- so many numbers, from one on
up_from : (first many : ℕ) → List ℕ
up_from first zero = []
up_from first (suc many) = first ∷ up_from (first + 1) many

many_up : (first many : ℕ) → length (up_from first many) ≡ many
unfolding up_from
many_up first zero = refl
many_up first (suc many) = ap suc (many_up (first + 1) many)

within : (first many y : ℕ) → Contains (up_from first many) y → (first ≤ y) × (y < first + many)
unfolding up_from
within first zero y among = absurd (none_in y among)
within first (suc many) y among = elim (first_or_later first (up_from (first + 1) many) y among) [
  | inl same ↦ (omega (arith, same), omega (arith, same))
  | inr later ↦
      let its = within (first + 1) many y later in
      (let above = its.0 in omega (arith, above), let below = its.1 in omega (arith, below))
]

rising : (first many : ℕ) → IsRising (up_from first many)
unfolding up_from
rising first zero = tt
rising first (suc many) =
    ((λ y among. let above = (within (first + 1) many y among).0 in omega (arith, above)), rising (first + 1) many)

pub all_left : (passes : ℕ → Type 0) (wanted : ℕ) → ((n : ℕ) → 0 < n → n ≤ wanted → passes n) → AreLeft passes wanted
all_left passes wanted each = record {
  numbers = up_from 1 wanted;
  rising = rising 1 wanted;
  enough = omega (arith, many_up 1 wanted);
  each = λ n among.
      let its = within 1 wanted n among in
      each n (let above = its.0 in omega (arith, above)) (let below = its.1 in omega (arith, below));
}

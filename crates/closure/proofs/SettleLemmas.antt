-- Four turns settle all context names.
use Rattle.std.proofs.Common.{◌≡◌, ℕ, ◌≤◌, suc, zero, refl, ap, arith}
use Rattle.std.proofs.lemmas.Grind.{common_steps}
use Rattle.mg_names.specs.declared.context_values.ContextValue.{ContextValue}
use Rattle.mg_names.specs.declared.context_values.ContextValue.TheVariants.{Free}
use Rattle.mg_model.specs.Configuration.{Configuration, settled, value_of, stands_in}
use Rattle.closure.specs.Elementwise.{settled_at}

pub settled_all : (c : Configuration) → ((j : ℕ) → 4 ≤ j → c.context j ≡ Free) →
    settled_at (settled_at (settled_at (settled_at c 0) 1) 2) 3 ≡ settled c
settled_all c free = ap (λ (f : ℕ → ContextValue). record c { context = f }) (same_functions at)
  where
    same_functions : {f g : ℕ → ContextValue} → ((j : ℕ) → f j ≡ g j) → f ≡ g
    same_functions h = λ i j. h j i

    at : (j : ℕ) → (settled_at (settled_at (settled_at (settled_at c 0) 1) 2) 3).context j ≡ value_of (c.context j) (stands_in c.spot j)
    at zero = refl
    at (suc zero) = refl
    at (suc (suc zero)) = refl
    at (suc (suc (suc zero))) = refl
    at (suc (suc (suc (suc j)))) = let unbound : c.context (suc (suc (suc (suc j)))) ≡ Free = free (suc (suc (suc (suc j)))) (omega arith) in grind (arith, common_steps)

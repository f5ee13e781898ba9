-- The rows of the lines, each of them changed.
use Rattle.std.proofs.Common.{◌≡◌, ℕ, Bool, true, false, cond, List, [], ◌∷◌, Some, option_map, map, refl}
use Rattle.std.specs.Map.{lookup}

module _ {X : Type 0} (f : X → X) (test : ℕ → Bool) where
  -- what a look-up finds
  pub lookup-changed : (rows : List (ℕ × X)) → lookup test (map (λ (e : ℕ × X). (e.0, f e.1)) rows) ≡ option_map f (lookup test rows)
  lookup-changed [] = refl
  lookup-changed (e ∷ rows) = by_test (test e.0) (lookup-changed rows)
    where
      by_test : (b : Bool) → lookup test (map (λ (e : ℕ × X). (e.0, f e.1)) rows) ≡ option_map f (lookup test rows) →
          cond b (Some (f e.1)) (lookup test (map (λ (e : ℕ × X). (e.0, f e.1)) rows)) ≡ option_map f (cond b (Some e.1) (lookup test rows))
      by_test true more = refl
      by_test false more = more

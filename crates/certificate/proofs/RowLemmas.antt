-- The rows of the code are the rows of the definition.
use Rattle.std.proofs.Common.{◌≡◌, ℕ, List, [], ◌∷◌, Bool, true, false, map, option_map, refl, ap}
use Rattle.std.specs.Prelude.{find, ◌&&◌}
use Rattle.std.specs.List.{list_all}
use Rattle.certificate.specs.declared.reads.Row.{Row}

-- what is found among rows is what is found among their names and values
module _ {X : Type 0} where
  pub rows_found : (p : List ℕ → Bool) (rs : List (Row X))
      → option_map (λ (r : Row X). r.value) (find (λ (r : Row X). p r.name) rs) ≡ option_map (λ (q : List ℕ × X). q.1) (find (λ (q : List ℕ × X). p q.0) (map (λ (r : Row X). (r.name, r.value)) rs))
  rows_found p [] = refl
  rows_found p (r ∷ rs) = go (p r.name) refl (rows_found p rs)
    where
      go : (b : Bool) → p r.name ≡ b
          → option_map (λ (r' : Row X). r'.value) (find (λ (r' : Row X). p r'.name) rs) ≡ option_map (λ (q : List ℕ × X). q.1) (find (λ (q : List ℕ × X). p q.0) (map (λ (r' : Row X). (r'.name, r'.value)) rs))
          → option_map (λ (r' : Row X). r'.value) (find (λ (r' : Row X). p r'.name) (r ∷ rs)) ≡ option_map (λ (q : List ℕ × X). q.1) (find (λ (q : List ℕ × X). p q.0) (map (λ (r' : Row X). (r'.name, r'.value)) (r ∷ rs)))
      go true e rest = rw e refl
      go false e rest = rw e rest

  -- a test of each row's name
  pub rows_tested : (p : List ℕ → Bool) (rs : List (Row X))
      → list_all (λ (r : Row X). p r.name) rs ≡ list_all (λ (q : List ℕ × X). p q.0) (map (λ (r : Row X). (r.name, r.value)) rs)
  rows_tested p [] = refl
  rows_tested p (r ∷ rs) = ap (λ b. p r.name && b) (rows_tested p rs)

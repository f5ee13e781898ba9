-- A list of lists in which one of them is another, and the places of a state with one more.
use Rattle.std.proofs.Common.{◌≡◌, ◌∙◌, ◌<◌, ◌+◌, ◌==◌, ◌++◌, ℕ, zero, suc, Bool, true, false, if◌then◌else◌, List, drop, [], ◌∷◌, length, map, refl, sym, ap, arith}
use Rattle.std.specs.List.{slice_index_or, slice_set}
use Rattle.std.proofs.lemmas.Bool.{eqb-true, eq-eqb}
use Rattle.std.proofs.lemmas.List.{append_assoc}
use Rattle.configuration.proofs.NumberLemmas.{at}
use Rattle.entry_table.specs.Index.{places_from}
use Rattle.entry_table.specs.Listed.{Listed}

module _ {X Y : Type 0} (f : X → Y) (v : X) (none : Y) where
  pub set_here : (xs : List X) (i : ℕ) → i < length xs → slice_index_or (map f (slice_set xs i v)) i none ≡ f v
  set_here [] i within = absurd (omega (arith, within))
  set_here (x ∷ xs) zero within = refl
  set_here (x ∷ xs) (suc i) within = set_here xs i (omega (arith, within))

  pub set_elsewhere : (xs : List X) (i k : ℕ) → (k ≡ i → ⊥) → slice_index_or (map f (slice_set xs i v)) k none ≡ slice_index_or (map f xs) k none
  set_elsewhere [] i k apart = refl
  set_elsewhere (x ∷ xs) zero zero apart = absurd (apart refl)
  set_elsewhere (x ∷ xs) zero (suc k) apart = refl
  set_elsewhere (x ∷ xs) (suc i) zero apart = refl
  set_elsewhere (x ∷ xs) (suc i) (suc k) apart = set_elsewhere xs i k (λ same. apart (ap suc same))

  pub was_here : (xs : List X) (i : ℕ) (x : X) → i < length xs → x ≡ slice_index_or xs i x → slice_index_or (map f xs) i none ≡ f x
  was_here [] i x within is = absurd (omega (arith, within))
  was_here (y ∷ xs) zero x within is = ap f (sym is)
  was_here (y ∷ xs) (suc i) x within is = was_here xs i x (omega (arith, within)) is

  pub as_many : (xs : List X) → length (map f xs) ≡ length xs
  as_many [] = refl
  as_many (x ∷ xs) = ap suc (as_many xs)

-- what is left of a state's places goes before the rest, or stays
one_before : (state mine place : ℕ) (old new tail : List ℕ) (same : Bool) → (mine == state) ≡ same
    → (state ≡ mine → new ≡ old ++ place ∷ []) → ((state ≡ mine → ⊥) → new ≡ old) → new ++ tail ≡ old ++ (if same then place ∷ tail else tail)
one_before state mine place old new tail true test here others =
    ap (λ (xs : List ℕ). xs ++ tail) (here (sym (eqb-true mine state test))) ∙ append_assoc old (place ∷ []) tail
one_before state mine place old new tail false test here others =
    ap (λ (xs : List ℕ). xs ++ tail) (others (λ equal. cc (eq-eqb mine state (sym equal), test)))

pub one_place_more : (entries : List Listed) (place state : ℕ) (entry : Listed) (old new : List ℕ) → place < length entries → entry ≡ slice_index_or entries place entry
    → (state ≡ entry.state → new ≡ old ++ place ∷ []) → ((state ≡ entry.state → ⊥) → new ≡ old)
    → new ++ places_from (place + 1) state (drop (place + 1) entries) ≡ old ++ places_from place state (drop place entries)
one_place_more entries place state entry old new within is here others =
    one_before state entry.state place old new (places_from (place + 1) state (drop (place + 1) entries)) (entry.state == state) refl here others
    ∙ ap (λ (rest : List Listed). old ++ places_from place state rest) (sym (at entries place entry within is))

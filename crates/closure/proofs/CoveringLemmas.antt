-- One step more is covered, or is the first that isn't.
use Rattle.std.proofs.Common.{◌≡◌, ◌∙◌, ◌++◌, ◌∷◌, ◌<◌, ℕ, zero, suc, List, [], Some, length, refl, sym, ap, subst, arith, inl, inr}
use Rattle.std.specs.List.{slice_get}
use Rattle.std.proofs.lemmas.Option.{same_Some, slice_get_within}
use Rattle.std.proofs.lemmas.Bool.{cases_lt}
use Rattle.mg_model.specs.Entries.{Entry, IsCovered}
use Rattle.mg_model.specs.Steps.{Step}
use Rattle.closure.specs.Findings.{AreCovered, AreCoveredBelow, IsFirstUncovered}

-- an element before the end of the first list
get_before : {X : Type 0} (xs ys : List X) (k : ℕ) → k < length xs → slice_get (xs ++ ys) k ≡ slice_get xs k
get_before [] ys k lt = absurd (omega (arith, lt))
get_before (x ∷ xs) ys zero lt = refl
get_before (x ∷ xs) ys (suc k) lt = get_before xs ys k (omega (arith, lt))

-- the first element of the second
get_at : {X : Type 0} (xs : List X) (y : X) (ys : List X) → slice_get (xs ++ y ∷ ys) (length xs) ≡ Some y
get_at [] y ys = refl
get_at (x ∷ xs) y ys = get_at xs y ys

length_more : {X : Type 0} (xs : List X) (y : X) → length (xs ++ y ∷ []) ≡ suc (length xs)
length_more [] y = refl
length_more (x ∷ xs) y = ap suc (length_more xs y)

module _ (entries : List Entry) (before : List Step) (step : Step) where
  covered_before : (later : List Step) → AreCovered entries before → AreCoveredBelow entries (before ++ step ∷ later) (length before)
  covered_before later are k lt other at = are k other (sym (get_before before (step ∷ later) k lt) ∙ at)

  pub one_more_covered : AreCovered entries before → IsCovered entries step.1 → AreCovered entries (before ++ step ∷ [])
  one_more_covered are is k other at = elim (cases_lt k (length before)) [
    | inl lt ↦ covered_before [] are k lt other at
    | inr past ↦ (
        let within = slice_get_within (before ++ step ∷ []) k other at in
        let here : k ≡ length before = omega (arith, within, past, length_more before step) in
        let same : step ≡ other = same_Some step other (sym (get_at before step []) ∙ ap (slice_get (before ++ step ∷ [])) (sym here) ∙ at) in
        subst (λ (s : Step). IsCovered entries s.1) same is)
  ]

  pub first_uncovered : (later : List Step) → AreCovered entries before → (IsCovered entries step.1 → ⊥)
      → IsFirstUncovered entries (before ++ (step ∷ [] ++ later)) step.0
  first_uncovered later are not = record {
    place = length before;
    step = step;
    at_place = get_at before step later;
    named = refl;
    uncovered = not;
    before = covered_before later are;
  }

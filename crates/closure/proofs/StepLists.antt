-- Steps that stand one list after the other, and what holds of each kind of note and of each line.
use Rattle.std.proofs.Common.{◌≡◌, ◌++◌, ℕ, zero, suc, ◌<◌, ◌≤◌, Bool, true, false, List, [], ◌∷◌, refl, arith}
use Rattle.std.specs.Prelude.{if◌then◌else◌, nat_lt}
use Rattle.std.specs.List.{flat_map}
use Rattle.std.proofs.lemmas.Bool.{ltb-true}
use Rattle.std.proofs.lemmas.Option.{none-some}
use Rattle.mg_names.specs.declared.kinds.Kind.{Kind}
use Rattle.mg_names.specs.declared.kinds.Kind.TheVariants.{On, Of, Fl, Full, Part}
use Rattle.mg_model.specs.Tables.{below}
use Rattle.mg_model.specs.Entries.{Entry}
use Rattle.mg_model.specs.Steps.{Step}
use Rattle.closure.specs.Findings.{AreCovered}

-- ---- steps one list after the other

module _ (entries : List Entry) where
  pub none_covered : AreCovered entries []
  none_covered s step is = absurd (none-some step is)

  pub both_covered : (first second : List Step) → AreCovered entries first → AreCovered entries second → AreCovered entries (first ++ second)
  both_covered [] second one other s step is = other s step is
  both_covered (x ∷ first) second one other zero step is = one zero step is
  both_covered (x ∷ first) second one other (suc s) step is = both_covered first second (λ n. one (suc n)) other s step is

  pub each_covered : {X : Type 0} (f : X → List Step) (xs : List X) → ((x : X) → AreCovered entries (f x)) → AreCovered entries (flat_map f xs)
  each_covered f [] each = none_covered
  each_covered f (x ∷ xs) each = both_covered (f x) (flat_map f xs) (each x) (each_covered f xs each)

  pub below_covered : (f : ℕ → List Step) (n : ℕ) (xs : List ℕ) → ((i : ℕ) → i < n → AreCovered entries (f i)) → AreCovered entries (flat_map f (below n xs))
  below_covered f n [] each = none_covered
  below_covered f n (i ∷ xs) each = by_test (nat_lt i n) refl (below_covered f n xs each)
    where
      by_test : (b : Bool) → nat_lt i n ≡ b → AreCovered entries (flat_map f (below n xs)) → AreCovered entries (flat_map f (if b then i ∷ below n xs else []))
      by_test true is later = both_covered (f i) (flat_map f (below n xs)) (each i (ltb-true i n is)) later
      by_test false is later = none_covered

-- ---- in turn

pub of_kinds : (P : Kind → Type 0) → P On → P Of → P Fl → P Full → P Part → (kind : Kind) → P kind
of_kinds P on off flash full part On = on
of_kinds P on off flash full part Of = off
of_kinds P on off flash full part Fl = flash
of_kinds P on off flash full part Full = full
of_kinds P on off flash full part Part = part

pub of_lines : (P : ℕ → Type 0) (n : ℕ) → n ≤ 4 → P 0 → P 1 → P 2 → P 3 → (i : ℕ) → i < n → P i
of_lines P n few first second third fourth zero lt = first
of_lines P n few first second third fourth (suc zero) lt = second
of_lines P n few first second third fourth (suc (suc zero)) lt = third
of_lines P n few first second third fourth (suc (suc (suc zero))) lt = fourth
of_lines P n few first second third fourth (suc (suc (suc (suc i)))) lt = absurd (omega (arith, lt, few))

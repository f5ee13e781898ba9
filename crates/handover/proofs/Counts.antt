-- How often a number stands in two lists one after the other, and what a total is after one view changes. Where one view has all parts, each total is its.
use Rattle.std.proofs.Common.{◌≡◌, ◌+◌, ◌≤◌, ◌==◌, ◌++◌, ◌⊎◌, inl, inr, ℕ, zero, suc, Bool, true, false, List, [], ◌∷◌, if◌then◌else◌, refl, sym, ap, subst, ⊎_elim, arith}
use Rattle.std.specs.Prelude.{slice_set}
use Rattle.std.proofs.lemmas.Bool.{eqb-true}
use mathlib.Core.Option.{some, some-injective, some-ne-none}
use lib.ListN.{get_elem?}
use Rattle.crossbeam_queue.proofs.Lists.{at_set, at_snoc}
use Rattle.handover.specs.Hands.{IsHand, hand, times, total}
use Rattle.handover.specs.declared.hand.Hand.{Hand}

-- ---- counting

pub times_append : (n : ℕ) (xs ys : List ℕ) → times n (xs ++ ys) ≡ times n xs + times n ys
unfolding times
times_append n [] ys = omega arith
times_append n (x ∷ xs) ys = omega (arith, times_append n xs ys)

pub times_none : (n : ℕ) → times n [] ≡ 0
unfolding times
times_none n = refl

-- in a list of one a number stands once or not at all
pub times_one : (n x : ℕ) → ((n ≡ x) × (times n (x ∷ []) ≡ 1)) ⊎ (times n (x ∷ []) ≡ 0)
unfolding times
times_one n x = by_test (n == x) refl
  where
    by_test : (test : Bool) → (n == x) ≡ test → ((n ≡ x) × ((if test then 1 else 0) + 0 ≡ 1)) ⊎ ((if test then 1 else 0) + 0 ≡ 0)
    by_test true same = inl (eqb-true n x same, refl)
    by_test false differs = inr refl

-- ---- totals

pub total_set : (f : Hand → ℕ) (views : List Hand) (share : ℕ) (v w : Hand) → get_elem? views share ≡ some v
    → total f (slice_set views share w) + f v ≡ total f views + f w
total_set f [] share v w at = absurd (some-ne-none v (sym at))
total_set f (u ∷ views) zero v w at = omega (arith, ap f (some-injective u v at))
total_set f (u ∷ views) (suc share) v w at = omega (arith, total_set f views share v w at)

pub total_more : (f : Hand → ℕ) (views : List Hand) (w : Hand) → total f (views ++ w ∷ []) ≡ total f views + f w
total_more f [] w = omega arith
total_more f (u ∷ views) w = omega (arith, total_more f views w)

-- one view has no more than the total
within_total : (f : Hand → ℕ) (views : List Hand) (share : ℕ) (v : Hand) → get_elem? views share ≡ some v → f v ≤ total f views
within_total f [] share v at = absurd (some-ne-none v (sym at))
within_total f (u ∷ views) zero v at = omega (arith, ap f (some-injective u v at))
within_total f (u ∷ views) (suc share) v at = omega (arith, within_total f views share v at)

-- ---- each view

abbrev pub AreHands : List Hand → Type 0
AreHands views = (share : ℕ) (v : Hand) → get_elem? views share ≡ some v → IsHand v

pub hands_set : (views : List Hand) (share : ℕ) (w : Hand) → AreHands views → IsHand w → AreHands (slice_set views share w)
hands_set views share w each is other u at = ⊎_elim (λ x. subst IsHand x.1 is) (λ x. each other u x.1) (at_set views share other w u at)

pub hands_more : (views : List Hand) (w : Hand) → AreHands views → IsHand w → AreHands (views ++ w ∷ [])
hands_more views w each is other u at = ⊎_elim (λ old. each other u old) (λ new. subst IsHand new is) (at_snoc views w u other at)

-- ---- one view with all parts

module _ (f : Hand → ℕ) (nothing : f (hand 0 [] [] []) ≡ 0) where
  none_at_all : (views : List Hand) → AreHands views → total (λ v. v.parts) views ≡ 0 → total f views ≡ 0
  none_at_all [] each no_parts = refl
  none_at_all (u ∷ views) each no_parts =
      let idle : u ≡ hand 0 [] [] [] = (each zero u refl).idle (omega arith) in
      omega (arith, nothing, ap f idle, none_at_all views (λ share. each (suc share)) (omega arith))

  pub total_whole : (views : List Hand) (share : ℕ) (v : Hand) → AreHands views → get_elem? views share ≡ some v → total (λ u. u.parts) views ≡ v.parts
      → total f views ≡ f v
  total_whole [] share v each at whole = absurd (some-ne-none v (sym at))
  total_whole (u ∷ views) zero v each at whole =
      let same : u ≡ v = some-injective u v at in
      let parts : u.parts ≡ v.parts = ap (λ (h : Hand). h.parts) same in
      omega (arith, ap f same, none_at_all views (λ share. each (suc share)) (omega (arith, parts, whole)))
  total_whole (u ∷ views) (suc share) v each at whole =
      let some_parts : v.parts ≤ total (λ h. h.parts) views = within_total (λ h. h.parts) views share v at in
      let no_parts : u.parts ≡ 0 = omega (arith, some_parts, whole) in
      let idle : u ≡ hand 0 [] [] [] = (each zero u refl).idle no_parts in
      omega (arith, nothing, ap f idle, total_whole views share v (λ other. each (suc other)) at (omega (arith, no_parts, whole)))

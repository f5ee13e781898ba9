-- What comes before the first claim that is broken: which places those are, and that a fact of each point at these places is all that has to hold.
use Rattle.std.proofs.Common.{◌≡◌, ◌<◌, ◌++◌, ℕ, zero, suc, List, [], ◌∷◌, length, Option, sym, ap, subst, arith, inl, inr}
use Rattle.std.specs.Prelude.{◌⊎◌, unwrap_or}
use Rattle.mg_examples.proofs.Words.{Configuration, IsWellFormed, Entry, AtPoint, KeyBefore}
use Rattle.mg_examples.proofs.PointFacts.{Below, EachPoint, at_number, at_points}

-- ---- places

-- of two claims of points that rank alike, the earlier one is of an earlier entry, or of an earlier point of the same
pub place_before : (e p rank s entry point : ℕ) → KeyBefore (2 ∷ e ∷ p ∷ rank ∷ s ∷ []) (2 ∷ entry ∷ point ∷ rank ∷ 0 ∷ [])
    → (e < entry) ⊎ ((e ≡ entry) × (p < point))
place_before e p rank s entry point (inl less) = absurd (let below : 2 < 2 = less in omega (arith, below))
place_before e p rank s entry point (inr (of_points, inl earlier)) = inl earlier
place_before e p rank s entry point (inr (of_points, inr (same, inl earlier))) = inr (same, earlier)
place_before e p rank s entry point (inr (of_points, inr (same, inr (again, inl less)))) =
    absurd (let below : rank < rank = less in omega (arith, below))
place_before e p rank s entry point (inr (of_points, inr (same, inr (again, inr (alike, inl less))))) =
    absurd (let below : s < 0 = less in omega (arith, below))
place_before e p rank s entry point (inr (of_points, inr (same, inr (again, inr (alike, inr (at_last, before)))))) = absurd before

-- ---- facts of the points at them

module _ (P : Configuration → Type 0) where
  -- of all points of the entries in front, and of those below a number of the next one
  pub holds_before : (front : List Entry) (entry : Entry) (rest : List Entry) (n : ℕ) → EachPoint P front → Below P entry n → (e p : ℕ)
      → (e < length front) ⊎ ((e ≡ length front) × (p < n)) → AtPoint (front ++ entry ∷ rest) e p P
  unfolding EachPoint
  holds_before [] entry rest n h below e p (inl earlier) = absurd (omega (arith, earlier))
  holds_before [] entry rest n h below zero p (inr at) = in_entry
    where
      in_entry : AtPoint (entry ∷ rest) 0 p P
      in_entry found there c point =
          let same : entry ≡ found = ap (λ (x : Option Entry). unwrap_or x found) there in
          let its : Below P found n = subst (λ (x : Entry). Below P x n) same below in
          subst P (sym point.1) (at_number P found n p its at.1 (subst IsWellFormed point.1 point.2))
  holds_before [] entry rest n h below (suc e) p (inr at) = absurd (let none : suc e ≡ 0 = at.0 in omega (arith, none))
  holds_before (first ∷ front) entry rest n h below zero p place = at_points P (first ∷ []) (h.0, tt) 0 p
  holds_before (first ∷ front) entry rest n h below (suc e) p place = holds_before front entry rest n h.1 below e p (nearer place)
    where
      nearer : (suc e < suc (length front)) ⊎ ((suc e ≡ suc (length front)) × (p < n)) → (e < length front) ⊎ ((e ≡ length front) × (p < n))
      nearer (inl earlier) = inl (omega (arith, earlier))
      nearer (inr (same, lower)) = inr (omega (arith, same), lower)

-- The keys of a map, sorted, are its numbers in rising order.
use Rattle.std.proofs.Common.{ℕ, suc, ◌<◌, IsTrue, is_some, IsSome, ◌↔◌, arith, subst, rules, List, [], ◌∷◌, Option, Some, None, nat_cmp, HashMap}
use Rattle.std.specs.Prelude.{nat_eq}
use Rattle.std.proofs.lemmas.Bool.{eqb-true}
use Rattle.std.proofs.lemmas.Cmp.{nat_eq_equiv}
use Rattle.std.proofs.lemmas.List.Sorted.{Contains-permutation, IsNonDecreasingBy-from_sort, IsPermutation-sym}
use Rattle.std.proofs.lemmas.Map.Keys.{IsDistinct-IsPermutation}
use Rattle.std.proofs.lemmas.Map.Made.{AllPairs-from_IsDistinct}
use Rattle.std.proofs.lemmas.Map.Views.{hash_map_contains_key_iff}
use Rattle.std.specs.Cmp.{unsigned_Decides}
use Rattle.std.specs.HashMap.{IsUnique, keys, get}
use Rattle.std.specs.List.{AllPairs}
use Rattle.std.specs.List.Sorted.{IsPermutation, IsSorted}
use Rattle.mg_model.specs.Items.{IsRising, Lists}
use Rattle.terminations.specs.Kept.{is_kept}

-- each is below those after it
rising : (xs : List ℕ) → AllPairs (λ x y. x < y) xs → IsRising xs
rising [] below = tt
rising (x ∷ xs) below = (
  (λ y there. subst (λ z. x < z) there.2 (below 0 (suc there.0) y (omega arith) (omega (arith, there.1)))),
  rising xs (λ i j d before within. below (suc i) (suc j) d (omega (arith, before)) (omega (arith, within))),
)

some_iff : {X : Type 0} (o : Option X) → IsSome o ↔ IsTrue (is_some o)
some_iff None = (λ h. absurd (search rules), λ h. absurd (search rules))
some_iff (Some x) = (λ h. search rules, λ h. search rules)

pub lists_keys : {V S : Type 0} (m : HashMap ℕ V S) (found : List ℕ) → IsUnique nat_eq m → IsPermutation (keys m) found → IsSorted nat_cmp found
    → Lists (is_kept m.entries) found
lists_keys m found unique moved sorted = record {
  rising = rising found (λ i j d before within.
      let least = IsNonDecreasingBy-from_sort (λ n. n) found sorted i j d (omega (arith, before)) within in
      let apart = AllPairs-from_IsDistinct unsigned_Decides found (IsDistinct-IsPermutation nat_eq (λ x y. nat_eq_equiv.symm x y) (keys m) found moved unique) i j d before within in
      grind (arith, least, apart));
  exactly = λ n.
      let there = hash_map_contains_key_iff nat_eq_equiv eqb-true m n in
      let kept = some_iff (get nat_eq m n) in (
        λ h. kept.0 (there.1 (Contains-permutation found (keys m) n (IsPermutation-sym (keys m) found moved) h)),
        λ h. Contains-permutation (keys m) found n moved (there.0 (kept.1 h)),
      );
}

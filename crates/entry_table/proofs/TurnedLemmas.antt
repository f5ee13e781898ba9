-- A component of one value may be given it at once, and needn't be turned.
use Rattle.std.proofs.Common.{◌≡◌, ◌∙◌, ℕ, ◌*◌, ◌/◌, ◌%◌, ◌<◌, ◌≤◌, zero, suc, nat_lt, true, List, [], ◌∷◌, ◌++◌, map, length, refl, sym, ap, subst, arith}
use Rattle.std.proofs.lemmas.Grind.{common_steps}
use Rattle.std.proofs.Math.Nat.{mod-lt, mod-eq_of_lt, div-eq_of_lt, mul-zero}
use Rattle.std.proofs.lemmas.Bool.{and_parts}
use Rattle.mg_model.specs.Configuration.{Configuration}
use Rattle.mg_model.specs.Entries.{Component, choices_of, chosen, size_of}
use Rattle.entry_table.specs.Numbers.{number_of}
use Rattle.entry_table.specs.Turned.{IsTurned, IsParted, are_below}
use Rattle.entry_table.proofs.ChoiceLemmas.{at_place, commute}

positive : (n p k : ℕ) → k < n * p → 0 < p
positive n zero k h = let none : n * 0 ≡ 0 = mul-zero n in absurd (omega (arith, h, none))
positive n (suc p) k h = omega arith

-- a factor that is one
size_without : (kept rest : List Component) (single : Component) → length (choices_of single) ≡ 1
    → size_of (kept ++ single ∷ rest) ≡ size_of (kept ++ rest)
size_without [] rest single one = ap (λ n. n * size_of rest) one ∙ omega arith
size_without (component ∷ kept) rest single one = ap (λ n. length (choices_of component) * n) (size_without kept rest single one)

apart : (component single : Component) (above : ℕ) → nat_lt (number_of component) above ≡ true → above ≤ number_of single → number_of component ≡ number_of single → ⊥
apart component single above lt h e = let below : number_of component < above = grind (arith, common_steps) in absurd (omega (arith, below, h, e))

module _ (single : Component) (one : length (choices_of single) ≡ 1) (above : ℕ) (past : above ≤ number_of single) (rest : List Component) where
  pub without : (kept : List Component) → are_below above kept ≡ true → (k : ℕ) → k < size_of (kept ++ single ∷ rest) → (c : Configuration)
      → chosen (map choices_of (kept ++ single ∷ rest)) k c ≡ chosen (map choices_of (kept ++ rest)) k (at_place single 0 c)
  without [] below k lt c =
      let small : k < size_of rest = omega (arith, lt, size_without [] rest single one) in
      let first : k / size_of rest ≡ 0 = div-eq_of_lt small in
      let same : k % size_of rest ≡ k = mod-eq_of_lt small in
      ap (λ n. chosen (map choices_of rest) (k % size_of rest) (at_place single n c)) first ∙ ap (λ n. chosen (map choices_of rest) n (at_place single 0 c)) same
  without (component ∷ kept) below k lt c =
      let tests = and_parts (nat_lt (number_of component) above) (are_below above kept) below in
      let whole = size_of (kept ++ single ∷ rest) in
      let size : whole ≡ size_of (kept ++ rest) = size_without kept rest single one in
      let some : 0 < whole = positive (length (choices_of component)) whole k lt in
      without kept tests.1 (k % whole) (mod-lt k some) (at_place component (k / whole) c)
      ∙ ap (chosen (map choices_of (kept ++ rest)) (k % whole)) (sym (commute component single (apart component single above tests.0 past) (k / whole) 0 c))
      ∙ ap (λ n. chosen (map choices_of (kept ++ rest)) (k % n) (at_place component (k / n) (at_place single 0 c))) size

-- ---- the loop

pub below_more : (above more : ℕ) → above ≤ more → (kept : List Component) → are_below above kept ≡ true → are_below more kept ≡ true
below_more above more h [] e = refl
below_more above more h (component ∷ kept) e =
    let tests = and_parts (nat_lt (number_of component) above) (are_below above kept) e in
    let first : nat_lt (number_of component) more ≡ true = below (number_of component) tests.0 in
    rw first (below_more above more h kept tests.1)
  where
    below : (n : ℕ) → nat_lt n above ≡ true → nat_lt n more ≡ true
    below n lt = grind (arith, common_steps)

pub below_last : (above : ℕ) (kept : List Component) (component : Component) → are_below above kept ≡ true → number_of component < above
    → are_below above (kept ++ component ∷ []) ≡ true
below_last above [] component e h = let last : nat_lt (number_of component) above ≡ true = grind (arith, common_steps) in rw last refl
below_last above (other ∷ kept) component e h =
    let tests = and_parts (nat_lt (number_of other) above) (are_below above kept) e in
    rw tests.0 (below_last above kept component tests.1 h)

pub one_given : (all kept rest : List Component) (single : Component) (above : ℕ) (first base : Configuration)
    → length (choices_of single) ≡ 1 → above ≤ number_of single → are_below above kept ≡ true
    → IsTurned all first (kept ++ single ∷ rest) base → IsTurned all first (kept ++ rest) (at_place single 0 base)
one_given all kept rest single above first base one past below turned = record {
  size = sym (size_without kept rest single one) ∙ turned.size;
  numbers = λ k lt. turned.numbers k lt ∙ without single one above past rest kept below k (rw turned.size lt) base;
}

one_more : {X : Type 0} (xs ys : List X) (x : X) → xs ++ x ∷ ys ≡ (xs ++ x ∷ []) ++ ys
one_more [] ys x = refl
one_more (other ∷ xs) ys x = ap (λ l. other ∷ l) (one_more xs ys x)

pub one_kept : (all kept rest : List Component) (component : Component) (above more : ℕ) (first base : Configuration) → above ≤ more → number_of component < more
    → IsParted all first (component ∷ rest) kept base above → IsParted all first rest (kept ++ component ∷ []) base more
one_kept all kept rest component above more first base h last parted = (
  subst (λ (cs : List Component). IsTurned all first cs base) (one_more kept rest component) parted.0,
  below_last more kept component (below_more above more h kept parted.1) last,
)

-- The numbers of a class, in rising order from one of them on; and how many of them are in none of a list of numbers.
use Rattle.std.proofs.Common.{◌≡◌, ◌∙◌, ◌+◌, ◌*◌, ◌%◌, ◌<◌, ◌≤◌, ℕ, zero, suc, List, [], ◌∷◌, length, refl, sym, ap, arith, inl, inr, Contains}
use Rattle.std.proofs.Math.Nat.{add-mod_right}
use Rattle.mg_merge.proofs.Words.{AreLeft, IsRising, first_or_later, none_in}
use Rattle.mg_merge.specs.Identifiers.{most_shards}
use Rattle.mg_merge.proofs.Commands.IdentifiersLeft.{without, was_there, still_rising, one_less, taken_out}

-- ---- the numbers of a class

candidates : (stride start count : ℕ) → List ℕ
candidates stride start zero = []
candidates stride start (suc count) = start ∷ candidates stride (start + stride) count

as_many : (stride start count : ℕ) → length (candidates stride start count) ≡ count
unfolding candidates
as_many stride start zero = refl
as_many stride start (suc count) = let more = as_many stride (start + stride) count in omega (arith, more)

from_start : (stride start count n : ℕ) → Contains (candidates stride start count) n → start ≤ n
unfolding candidates
from_start stride start zero n there = absurd (none_in n there)
from_start stride start (suc count) n there = elim (first_or_later start (candidates stride (start + stride) count) n there) [
  | inl is ↦ omega (arith, is)
  | inr later ↦ let above = from_start stride (start + stride) count n later in omega (arith, above)
]

they_rise : (stride start count : ℕ) → 0 < stride → IsRising (candidates stride start count)
unfolding candidates
they_rise stride start zero real = tt
they_rise stride start (suc count) real = (
  λ n there. (let above = from_start stride (start + stride) count n there in omega (arith, above, real)),
  they_rise stride (start + stride) count real,
)

none_beyond : (stride start count n : ℕ) → stride ≤ most_shards → Contains (candidates stride start count) n → n < start + most_shards * count
unfolding candidates
none_beyond stride start zero n small there = absurd (none_in n there)
none_beyond stride start (suc count) n small there = elim (first_or_later start (candidates stride (start + stride) count) n there) [
  | inl is ↦ omega (arith, is)
  | inr later ↦ let below = none_beyond stride (start + stride) count n small later in omega (arith, below, small)
]

same_class : (stride start count n : ℕ) → Contains (candidates stride start count) n → n % stride ≡ start % stride
unfolding candidates
same_class stride start zero n there = absurd (none_in n there)
same_class stride start (suc count) n there = elim (first_or_later start (candidates stride (start + stride) count) n there) [
  | inl is ↦ ap (λ (m : ℕ). m % stride) (sym is)
  | inr later ↦ same_class stride (start + stride) count n later ∙ add-mod_right start stride
]

-- ---- those that are in none of a list

unused : (used numbers : List ℕ) → List ℕ
unused [] numbers = numbers
unused (x ∷ used) numbers = without x (unused used numbers)

unused_rise : (used numbers : List ℕ) → IsRising numbers → IsRising (unused used numbers)
unfolding unused
unused_rise [] numbers rising = rising
unused_rise (x ∷ used) numbers rising = still_rising x (unused used numbers) (unused_rise used numbers rising)

among_all : (used numbers : List ℕ) (n : ℕ) → Contains (unused used numbers) n → Contains numbers n
unfolding unused
among_all [] numbers n there = there
among_all (x ∷ used) numbers n there = among_all used numbers n (was_there x (unused used numbers) n there)

-- each number that is used takes one away at most
at_least : (used numbers : List ℕ) → length numbers ≤ length used + length (unused used numbers)
unfolding unused
at_least [] numbers = omega (arith)
at_least (x ∷ used) numbers =
    let before = at_least used numbers in
    let one = one_less x (unused used numbers) in
    omega (arith, before, one)

not_used : (used numbers : List ℕ) → IsRising numbers → (n : ℕ) → Contains (unused used numbers) n → Contains used n → ⊥
unfolding unused
not_used [] numbers rising n there used = none_in n used
not_used (x ∷ used) numbers rising n there among = elim (first_or_later x used n among) [
  | inl is ↦ taken_out x (unused used numbers) (unused_rise used numbers rising) n there (sym is)
  | inr later ↦ not_used used numbers rising n (was_there x (unused used numbers) n there) later
]

-- where a class reaches far enough, it has as many numbers as are wanted in none of a list
pub class_has_more : (passes : ℕ → Type 0) (used : List ℕ) (stride start most wanted : ℕ) → 0 < stride → stride ≤ most_shards → length used ≤ most
    → ((n : ℕ) → start ≤ n → n < start + most_shards * (most + wanted) → n % stride ≡ start % stride → (Contains used n → ⊥) → passes n)
    → AreLeft passes wanted
class_has_more passes used stride start most wanted real small few each = record {
  numbers = unused used all;
  rising = unused_rise used all rising;
  enough = (
      let before = at_least used all in
      let many = as_many stride start (most + wanted) in
      omega (arith, before, many, few)
      );
  each = λ n there.
      let among = among_all used all n there in
      each n (from_start stride start (most + wanted) n among) (none_beyond stride start (most + wanted) n small among)
      (same_class stride start (most + wanted) n among) (not_used used all rising n there);
}
  where
    all : List ℕ
    all = candidates stride start (most + wanted)

    rising : IsRising all
    rising = they_rise stride start (most + wanted) real

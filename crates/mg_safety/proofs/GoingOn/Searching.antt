-- Among the terminations that a script declares one is found that passes a test, or there is none; and there is a number above all that they stand for.
use Rattle.std.proofs.Common.{◌≡◌, ◌+◌, ◌<◌, ◌≤◌, ◌⊎◌, ℕ, zero, suc, Bool, true, false, List, [], ◌∷◌, length, refl, sym, ap, subst, arith, inl, inr}
use Rattle.std.specs.Prelude.{Contains}
use Rattle.std.proofs.lemmas.Bool.{cases_lt}
use Rattle.mg_model.specs.declared.commands.Termination.{Termination}
use Rattle.mg_model.specs.declared.commands.Termination.TheVariants.{Line, Ephemeral}
use Rattle.mg_model.specs.Accepted.{IsSlot}
use Rattle.mg_model.specs.Items.{IsRising, Lists}
use Rattle.mg_model.specs.Script.{Script}
use Rattle.mg_model.proofs.Cases.{not_both}
use Rattle.mg_model.proofs.Single.{first_in, first_or_later, later_in, none_in}

-- ---- numbers below a bound

abbrev Found : (ℕ → Bool) → ℕ → Type 0
Found test k = ((i : ℕ) × (i < k) × (test i ≡ true)) ⊎ ((i : ℕ) → i < k → test i ≡ true → ⊥)

search_below : (test : ℕ → Bool) (k : ℕ) → Found test k
search_below test zero = inr (λ i within. absurd (let below : i < 0 = within in omega (arith, below)))
search_below test (suc k) = at (test k) refl (search_below test k)
  where
    at : (passes : Bool) → test k ≡ passes → Found test k → Found test (suc k)
    at true e before = inl (k, omega arith, e)
    at false e (inl found) = let below : found.0 < k = found.1 in inl (found.0, omega (arith, below), found.2)
    at false e (inr none) = inr (λ i within passes. elim (cases_lt i k) [
      | inl below ↦ none i below passes
      | inr above ↦ (let less : i < suc k = within in
          let last : i ≡ k = omega (arith, less, above) in not_both (subst (λ (n : ℕ). test n ≡ true) last passes) e)
    ])

bound_below : (f : ℕ → ℕ) (k : ℕ) → (m : ℕ) × ((i : ℕ) → i < k → f i < m)
bound_below f zero = (0, λ i within. absurd (let below : i < 0 = within in omega (arith, below)))
bound_below f (suc k) = at (bound_below f k)
  where
    at : (m : ℕ) × ((i : ℕ) → i < k → f i < m) → (m : ℕ) × ((i : ℕ) → i < suc k → f i < m)
    at (m, each) = (
      m + f k + 1,
      λ i within. elim (cases_lt i k) [
        | inl below ↦ (let small : f i < m = each i below in omega (arith, small))
        | inr above ↦ (let less : i < suc k = within in
            let last : i ≡ k = omega (arith, less, above) in let same : f i ≡ f k = ap f last in omega (arith, same))
      ],
    )

-- ---- terminations that a script declares

pub search_slots : (script : Script) (test : Termination → Bool)
    → ((t : Termination) × IsSlot script t × (test t ≡ true)) ⊎ ((t : Termination) → IsSlot script t → test t ≡ true → ⊥)
search_slots script test = elim (search_below (λ i. test (Line i)) (length script.lines)) [
  | inl found ↦ inl (Line found.0, found.1, found.2)
  | inr no_line ↦ elim (search_below (λ k. test (Ephemeral k)) (length script.ephemerals)) [
    | inl found ↦ inl (Ephemeral found.0, found.1, found.2)
    | inr no_ephemeral ↦ inr (neither no_line no_ephemeral)
  ]
]
  where
    neither : ((i : ℕ) → i < length script.lines → test (Line i) ≡ true → ⊥) → ((k : ℕ) → k < length script.ephemerals → test (Ephemeral k) ≡ true → ⊥)
        → (t : Termination) → IsSlot script t → test t ≡ true → ⊥
    neither no_line no_ephemeral (Line i) slot passes = no_line i slot passes
    neither no_line no_ephemeral (Ephemeral k) slot passes = no_ephemeral k slot passes

pub bound_of_slots : (script : Script) (f : Termination → ℕ) → (m : ℕ) × ((t : Termination) → IsSlot script t → f t < m)
bound_of_slots script f =
    both (bound_below (λ i. f (Line i)) (length script.lines)) (bound_below (λ k. f (Ephemeral k)) (length script.ephemerals))
  where
    both : (m : ℕ) × ((i : ℕ) → i < length script.lines → f (Line i) < m) → (m : ℕ) × ((k : ℕ) → k < length script.ephemerals → f (Ephemeral k) < m)
        → (m : ℕ) × ((t : Termination) → IsSlot script t → f t < m)
    both (m, lines) (n, ephemerals) = (m + n, each)
      where
        each : (t : Termination) → IsSlot script t → f t < m + n
        each (Line i) slot = let small : f (Line i) < m = lines i slot in omega (arith, small)
        each (Ephemeral k) slot = let small : f (Ephemeral k) < n = ephemerals k slot in omega (arith, small)

-- ---- the numbers below a bound that pass a test, in rising order

-- of so many numbers from one on those that pass a test
record AreThose (test : ℕ → Bool) (from many : ℕ) : Type 0 where
  numbers : List ℕ
  rising : IsRising numbers
  onward : (n : ℕ) → Contains numbers n → (from ≤ n) × (test n ≡ true)
  back : (n : ℕ) → from ≤ n → n < from + many → test n ≡ true → Contains numbers n

those : (test : ℕ → Bool) (from many : ℕ) → AreThose test from many
those test from zero = record {
  numbers = [];
  rising = tt;
  onward = λ n there. absurd (none_in n there);
  back = λ n above below passes. absurd (omega (arith, above, below));
}
those test from (suc many) = at (test from) refl (those test (from + 1) many)
  where
    at : (passes : Bool) → test from ≡ passes → AreThose test (from + 1) many → AreThose test from (suc many)
    at true e more = record {
      numbers = from ∷ more.numbers;
      rising = ((λ n there. let above = (more.onward n there).0 in omega (arith, above)), more.rising);
      onward = λ n there. elim (first_or_later from more.numbers n there) [
        | inl is ↦ (omega (arith, is), subst (λ (k : ℕ). test k ≡ true) is e)
        | inr later ↦ (let its = more.onward n later in let above = its.0 in (omega (arith, above), its.1))
      ];
      back = λ n above below passes. elim (cases_lt from n) [
        | inl later ↦ later_in from more.numbers n (more.back n (omega (arith, later)) (omega (arith, below)) passes)
        | inr least ↦ (let is : from ≡ n = omega (arith, above, least) in subst (Contains (from ∷ more.numbers)) is (first_in from more.numbers))
      ];
    }
    at false e more = record {
      numbers = more.numbers;
      rising = more.rising;
      onward = λ n there. let its = more.onward n there in let above = its.0 in (omega (arith, above), its.1);
      back = λ n above below passes. elim (cases_lt from n) [
        | inl later ↦ more.back n (omega (arith, later)) (omega (arith, below)) passes
        | inr least ↦ (let is : from ≡ n = omega (arith, above, least) in absurd (not_both (subst (λ (k : ℕ). test k ≡ true) (sym is) passes) e))
      ];
    }

pub listed_below : (test : ℕ → Bool) (m : ℕ) → ((n : ℕ) → test n ≡ true → n < m) → (numbers : List ℕ) × Lists test numbers
listed_below test m bounded =
    let it = those test 0 m in (
      it.numbers,
      record {
        rising = it.rising;
        exactly = λ n. ((λ there. (it.onward n there).1), (λ passes. it.back n (omega arith) (let below = bounded n passes in omega (arith, below)) passes));
      },
    )

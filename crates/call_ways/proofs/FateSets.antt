-- Sets of fates, place by place.
use Rattle.std.proofs.Common.{◌≡◌, ◌∙◌, ◌+◌, ◌<◌, ◌≤◌, ◌||◌, ◌++◌, ◌∷◌, [], ℕ, zero, suc, Bool, true, false, inl, inr, List, length, Option, refl, sym, ap, arith}
use Rattle.std.specs.Prelude.{unwrap_or}
use Rattle.std.specs.List.{slice_get}
use Rattle.std.proofs.lemmas.Bool.{cases_lt, or_from}
use Rattle.std.proofs.lemmas.Option.{slice_get_past}
use Rattle.call_ways.specs.declared.fate_sets.FateSet.{FateSet}
use Rattle.call_ways.specs.declared.fates.Fate.{Fate}
use Rattle.call_ways.specs.declared.fates.Fate.TheVariants as fate
use Rattle.call_ways.specs.Crossed.{is_at, is_of}
use Rattle.call_ways.specs.Fates.{has, no_fate, set_at}

pub none_has : (it : Fate) → has no_fate it ≡ false
none_has fate.LeftOut = refl
none_has fate.NotReached = refl
none_has fate.Refused = refl
none_has fate.Done = refl

-- what stands in the first of two lists stands there in both
at_front : {X : Type 0} (xs ys : List X) (n : ℕ) → n < length xs → slice_get (xs ++ ys) n ≡ slice_get xs n
at_front [] ys n within = absurd (omega (arith, within))
at_front (x ∷ xs) ys zero within = refl
at_front (x ∷ xs) ys (suc n) within = at_front xs ys n (omega (arith, within))

at_end : {X : Type 0} (xs : List X) (y : X) (n : ℕ) → n ≡ length xs → slice_get (xs ++ y ∷ []) n ≡ slice_get (y ∷ []) 0
at_end [] y n is = rw is refl
at_end (x ∷ xs) y zero is = absurd (omega (arith, is))
at_end (x ∷ xs) y (suc n) is = at_end xs y n (omega (arith, is))

longer : {X : Type 0} (xs : List X) (y : X) → length (xs ++ y ∷ []) ≡ length xs + 1
longer [] y = refl
longer (x ∷ xs) y = let more = longer xs y in omega (arith, more)

-- so many sets have the fates at their places too
pub record AreMade (sets : List FateSet) (fates : List Fate) (made : List FateSet) (count : ℕ) : Type 0 where
  pub long : length made ≡ count
  pub each : (place : ℕ) (it : Fate) → place < count → has (set_at made place) it ≡ (has (set_at sets place) it || is_at fates place it)

module _ (sets : List FateSet) (fates : List Fate) where
  pub none_made : AreMade sets fates [] 0
  none_made = record { long = refl; each = λ place it below. absurd (omega (arith, below)) }

  pub one_made : (made new : List FateSet) (set : FateSet) (count : ℕ) → AreMade sets fates made count
      → ((it : Fate) → has set it ≡ (has (set_at sets count) it || is_at fates count it)) → new ≡ made ++ set ∷ [] → AreMade sets fates new (count + 1)
  one_made made new set count so_far is new_is = record {
    long = ap length new_is ∙ longer made set ∙ ap (λ (n : ℕ). n + 1) so_far.long;
    each = λ place it below.
        elim (cases_lt place count) [
          | inl before ↦ (
              let within : place < length made = omega (arith, before, so_far.long) in
              ap (λ (xs : List FateSet). has (set_at xs place) it) new_is
              ∙ ap (λ (o : Option FateSet). has (unwrap_or o no_fate) it) (at_front made (set ∷ []) place within) ∙ so_far.each place it before)
          | inr past ↦ (
              let here : place ≡ count = omega (arith, below, past) in
              let end : place ≡ length made = omega (arith, here, so_far.long) in
              ap (λ (xs : List FateSet). has (set_at xs place) it) new_is
              ∙ ap (λ (o : Option FateSet). has (unwrap_or o no_fate) it) (at_end made set place end) ∙ is it
              ∙ ap (λ (n : ℕ). has (set_at sets n) it || is_at fates n it) (sym here))
        ];
  }

  past_sets : (xs : List FateSet) (place : ℕ) (it : Fate) → length xs ≤ place → has (set_at xs place) it ≡ false
  past_sets xs place it past =
      ap (λ (o : Option FateSet). has (unwrap_or o no_fate) it) (slice_get_past xs place past) ∙ none_has it

  pub all_made : (made : List FateSet) (count : ℕ) → length sets ≤ count → length fates ≤ count → AreMade sets fates made count
      → (place : ℕ) (it : Fate) → has (set_at made place) it ≡ (has (set_at sets place) it || is_at fates place it)
  all_made made count sets_past fates_past are = λ place it.
      elim (cases_lt place count) [
        | inl below ↦ are.each place it below
        | inr past ↦ (
            let none : has (set_at sets place) it ≡ false = past_sets sets place it (omega (arith, sets_past, past)) in
            let no_more : is_at fates place it ≡ false = ap (is_of it) (slice_get_past fates place (omega (arith, fates_past, past))) in
            past_sets made place it (omega (arith, are.long, past)) ∙ sym (or_from (has (set_at sets place) it) (is_at fates place it) none no_more))
      ]

or_on : (a b c : Bool) → ((a || b) || c) ≡ (a || (b || c))
or_on true b c = refl
or_on false b c = refl

-- one more of some that are gone over
pub one_among : (old new here rest all : Bool) → new ≡ (old || here) → (old || (here || rest)) ≡ all → (new || rest) ≡ all
one_among old new here rest all new_is so_far = ap (λ (b : Bool). b || rest) new_is ∙ or_on old here rest ∙ so_far

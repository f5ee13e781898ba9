-- Numbers that come twice, with a set of those before.
use Rattle.std.proofs.Common.{◌≡◌, ◌∙◌, ℕ, suc, ◌+◌, ◌<◌, ◌++◌, Bool, true, false, List, [], ◌∷◌, length, map, take, drop, get_or, refl, sym, ap, arith, true≢false}
use Rattle.std.specs.Prelude.{◌==◌, ◌||◌, not, if◌then◌else◌}
use Rattle.std.specs.List.{list_any}
use Rattle.std.proofs.lemmas.List.Folds.{list_any-append}
use Rattle.std.proofs.lemmas.List.{map-append}
use Rattle.std.proofs.Math.Seq.{take-suc, drop-cons}
use Rattle.mg_names.specs.declared.identifiers.LineNo.{LineNo}
use Rattle.plans.specs.Tables.{has_twice}
use Rattle.mg_model.specs.Members.{is_among}
use Rattle.mg_model.proofs.Cases.{same_turned}

-- ---- from the left: one of the numbers stands among those before it

abbrev pub repeats_after : List ℕ → List ℕ → Bool
repeats_after before [] = false
repeats_after before (n ∷ more) = is_among before n || repeats_after (before ++ n ∷ []) more

-- one of the numbers stands among these
meets : List ℕ → List ℕ → Bool
meets before [] = false
meets before (n ∷ more) = is_among before n || meets before more

regrouped : (a b c d : Bool) → ((a || (c || false)) || (b || d)) ≡ ((a || b) || (c || d))
regrouped true b c d = refl
regrouped false true true d = refl
regrouped false true false d = refl
regrouped false false true d = refl
regrouped false false false d = refl

meets_more : (before : List ℕ) (n : ℕ) (more : List ℕ) → meets (before ++ n ∷ []) more ≡ (meets before more || is_among more n)
unfolding meets
meets_more before n [] = refl
meets_more before n (m ∷ more) =
    ap (λ b. b || meets (before ++ n ∷ []) more) (list_any-append (λ other. m == other) before (n ∷ []))
    ∙ ap (λ b. (list_any (λ other. m == other) before || ((m == n) || false)) || b) (meets_more before n more)
    ∙ ap (λ b. (list_any (λ other. m == other) before || (b || false)) || (meets before more || list_any (λ other. n == other) more)) (same_turned m n)
    ∙ regrouped (list_any (λ other. m == other) before) (meets before more) (n == m) (list_any (λ other. n == other) more)

parted : (a b c d : Bool) → (a || ((b || c) || d)) ≡ ((a || b) || (c || d))
parted true b c d = refl
parted false true c d = refl
parted false false c d = refl

from_left : (before ns : List ℕ) → repeats_after before ns ≡ (meets before ns || has_twice ns)
unfolding meets
from_left before [] = refl
from_left before (n ∷ more) =
    ap (λ b. is_among before n || b) (from_left (before ++ n ∷ []) more ∙ ap (λ b. b || has_twice more) (meets_more before n more))
    ∙ parted (is_among before n) (meets before more) (is_among more n) (has_twice more)

meets_nothing : (ns : List ℕ) → meets [] ns ≡ false
unfolding meets
meets_nothing [] = refl
meets_nothing (n ∷ more) = meets_nothing more

pub twice_from_left : (ns : List ℕ) → repeats_after [] ns ≡ has_twice ns
twice_from_left ns = from_left [] ns ∙ ap (λ b. b || has_twice ns) (meets_nothing ns)

-- ---- the lines so far, and those that are left

one_more : (i : ℕ) → i + 1 ≡ suc i
one_more i = omega arith

abbrev pub numbers_of : List LineNo → List ℕ
numbers_of lines = map (λ (line : LineNo). line.0) lines

-- a set that finds what is among these
abbrev pub Holds : List ℕ → List ℕ → Type 0
Holds keys front = (n : ℕ) → is_among keys n ≡ is_among front n

abbrev pub GoesOn : List ℕ → List ℕ → List ℕ → Type 0
GoesOn front rest all = repeats_after front rest ≡ has_twice all

module _ (lines : List LineNo) (i : ℕ) (d : LineNo) (within : i < length lines) where
  abbrev at : ℕ
  at = (get_or lines i d).0

  front_more : numbers_of (take (i + 1) lines) ≡ numbers_of (take i lines) ++ at ∷ []
  front_more = ap (λ n. numbers_of (take n lines)) (one_more i) ∙ ap numbers_of (take-suc lines i d within) ∙ map-append (λ (line : LineNo). line.0) (take i lines) (get_or lines i d ∷ [])

  rest_is : numbers_of (drop i lines) ≡ at ∷ numbers_of (drop (i + 1) lines)
  rest_is = ap numbers_of (drop-cons lines i d within) ∙ ap (λ n. at ∷ numbers_of (drop n lines)) (sym (one_more i))

  -- the number stands among those before it
  pub comes_twice : (keys : List ℕ) → Holds keys (numbers_of (take i lines)) → GoesOn (numbers_of (take i lines)) (numbers_of (drop i lines)) (numbers_of lines)
      → not (is_among keys at) ≡ false → true ≡ has_twice (numbers_of lines)
  comes_twice keys holds goes found =
      sym (there (is_among keys at) found (sym (holds at))) ∙ sym (ap (repeats_after (numbers_of (take i lines))) rest_is) ∙ goes
    where
      there : (b : Bool) → not b ≡ false → is_among (numbers_of (take i lines)) at ≡ b
          → repeats_after (numbers_of (take i lines)) (at ∷ numbers_of (drop (i + 1) lines)) ≡ true
      there true found same = rw same refl
      there false found same = absurd (true≢false found)

  pub goes_on : (keys : List ℕ) → Holds keys (numbers_of (take i lines)) → GoesOn (numbers_of (take i lines)) (numbers_of (drop i lines)) (numbers_of lines)
      → not (is_among keys at) ≡ true → GoesOn (numbers_of (take (i + 1) lines)) (numbers_of (drop (i + 1) lines)) (numbers_of lines)
  goes_on keys holds goes new =
      ap (λ front. repeats_after front (numbers_of (drop (i + 1) lines))) front_more
      ∙ sym (not_there (is_among keys at) new (sym (holds at)))
      ∙ sym (ap (repeats_after (numbers_of (take i lines))) rest_is) ∙ goes
    where
      not_there : (b : Bool) → not b ≡ true → is_among (numbers_of (take i lines)) at ≡ b
          → repeats_after (numbers_of (take i lines)) (at ∷ numbers_of (drop (i + 1) lines))
          ≡ repeats_after (numbers_of (take i lines) ++ at ∷ []) (numbers_of (drop (i + 1) lines))
      not_there true new same = absurd (true≢false (sym new))
      not_there false new same = rw same refl

  pub holds_more : (keys after : List ℕ) → Holds keys (numbers_of (take i lines))
      → ((n : ℕ) → is_among after n ≡ (if n == at then true else is_among keys n)) → Holds after (numbers_of (take (i + 1) lines))
  holds_more keys after holds adds n =
      adds n ∙ one (n == at) (is_among (numbers_of (take i lines)) n) (holds n)
      ∙ sym (ap (λ front. is_among front n) front_more ∙ list_any-append (λ other. n == other) (numbers_of (take i lines)) (at ∷ []))
    where
      one : (here before : Bool) → is_among keys n ≡ before → (if here then true else is_among keys n) ≡ (before || (here || false))
      one true true was = refl
      one true false was = refl
      one false true was = was
      one false false was = was

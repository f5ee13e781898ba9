-- What the words of a region say, and what one field or one set more makes of them.
use Rattle.std.proofs.Common.{◌≡◌, ℕ, ◌+◌, ◌-◌, ◌*◌, ◌/◌, ◌%◌, ◌^◌, ◌<◌, ◌==◌, ◌↔◌, List, [], ◌∷◌, ◌++◌, Bool, true, false, ◌&&◌, refl, sym, ap, ap₂, ◌∙◌, arith, bit_and}
use Rattle.std.specs.Prelude.{if◌then◌else◌}
use Rattle.std.specs.List.{list_all}
use Rattle.std.proofs.lemmas.List.Folds.{list_all-append}
use Rattle.std.specs.Int.RustNames.{bit_or, bit_xor}
use Rattle.std.proofs.lemmas.Grind.{common_steps}
use Rattle.configuration.specs.Fields.{field_of, IsPut}
use Rattle.configuration.specs.Packed.{Words}
use Rattle.configuration.specs.Config.{configuration_of}
use Rattle.configuration.specs.Regions.{ValueSet, word_at, with_word, agrees, are_alike, is_in, is_within}
use Rattle.configuration.proofs.AgreementLemmas.{and_true, and_false, or_zeros, everything, narrowed_word}
use Rattle.configuration.proofs.WordLemmas.{small}

-- the words of a configuration differ in no bit of the mask
pub alike : (w base mask : Words) (l e c : ℕ) → l ≡ w.lines → e ≡ w.ephemerals → c ≡ w.cuts →
    (bit_or (bit_and (bit_xor l base.lines) mask.lines)
    (bit_or (bit_and (bit_xor e base.ephemerals) mask.ephemerals) (bit_and (bit_xor c base.cuts) mask.cuts)) == 0)
    ≡ are_alike w base mask
unfolding agrees
alike w base mask l e c p q r =
    or_zeros (bit_and (bit_xor l base.lines) mask.lines) (bit_and (bit_xor e base.ephemerals) mask.ephemerals)
    (bit_and (bit_xor c base.cuts) mask.cuts)
    ∙ ap₂ (λ a b. a && b) (ap (λ x. bit_and (bit_xor x base.lines) mask.lines == 0) p)
    (ap₂ (λ a b. a && b) (ap (λ x. bit_and (bit_xor x base.ephemerals) mask.ephemerals == 0) q)
    (ap (λ x. bit_and (bit_xor x base.cuts) mask.cuts == 0) r))

-- ---- one field more of three words

abbrev word_by : Words → Bool → Bool → ℕ
word_by w c d = if c then w.lines else if d then w.ephemerals else w.cuts

abbrev with_by : Words → Bool → Bool → ℕ → Words
with_by w c d word = if c then record w { lines = word } else if d then record w { ephemerals = word } else record w { cuts = word }

in_first : (a b c f : Bool) → ((a && f) && (b && c)) ≡ ((a && (b && c)) && f)
in_first true true true f = and_true f
in_first true true false f = and_false f
in_first true false c f = and_false f
in_first false b c f = refl

in_second : (a b c f : Bool) → (a && ((b && f) && c)) ≡ ((a && (b && c)) && f)
in_second true true true f = and_true f
in_second true true false f = and_false f
in_second true false c f = refl
in_second false b c f = refl

in_third : (a b c f : Bool) → (a && (b && (c && f))) ≡ ((a && (b && c)) && f)
in_third true true c f = refl
in_third true false c f = refl
in_third false b c f = refl

narrowed_by : (w base mask : Words) (c d : Bool) (b' m' at bits n : ℕ) → IsPut b' (word_by base c d) at bits n →
    IsPut m' (word_by mask c d) at bits (2 ^ bits - 1) → field_of (word_by mask c d) at bits ≡ 0 →
    are_alike w (with_by base c d b') (with_by mask c d m') ≡ (are_alike w base mask && field_of (word_by w c d) at bits == n)
narrowed_by w base mask true d b' m' at bits n p q free =
    let second = agrees w.ephemerals base.ephemerals mask.ephemerals in
    let third = agrees w.cuts base.cuts mask.cuts in
    ap (λ a. a && (second && third)) (narrowed_word w.lines base.lines mask.lines b' m' at bits n p q free)
    ∙ in_first (agrees w.lines base.lines mask.lines) second third (field_of w.lines at bits == n)
narrowed_by w base mask false true b' m' at bits n p q free =
    let first = agrees w.lines base.lines mask.lines in
    let third = agrees w.cuts base.cuts mask.cuts in
    ap (λ a. first && (a && third)) (narrowed_word w.ephemerals base.ephemerals mask.ephemerals b' m' at bits n p q free)
    ∙ in_second first (agrees w.ephemerals base.ephemerals mask.ephemerals) third (field_of w.ephemerals at bits == n)
narrowed_by w base mask false false b' m' at bits n p q free =
    let first = agrees w.lines base.lines mask.lines in
    let second = agrees w.ephemerals base.ephemerals mask.ephemerals in
    ap (λ a. first && (second && a)) (narrowed_word w.cuts base.cuts mask.cuts b' m' at bits n p q free)
    ∙ in_third first second (agrees w.cuts base.cuts mask.cuts) (field_of w.cuts at bits == n)

pub narrowed : (w base mask base' mask' : Words) (k at bits n : ℕ) → IsPut (word_at base' k) (word_at base k) at bits n →
    base' ≡ with_word base k (word_at base' k) → IsPut (word_at mask' k) (word_at mask k) at bits (2 ^ bits - 1) →
    mask' ≡ with_word mask k (word_at mask' k) → field_of (word_at mask k) at bits ≡ 0 →
    are_alike w base' mask' ≡ (are_alike w base mask && field_of (word_at w k) at bits == n)
narrowed w base mask base' mask' k at bits n p others q beside free =
    ap₂ (are_alike w) others beside ∙ narrowed_by w base mask (k == 0) (k == 1) (word_at base' k) (word_at mask' k) at bits n p q free

-- ---- regions

pub all_within : (w base mask : Words) (wide : List ValueSet) → base ≡ record { lines = 0; ephemerals = 0; cuts = 0 } →
    mask ≡ record { lines = 0; ephemerals = 0; cuts = 0 } → wide ≡ [] →
    is_within (record { base = base; mask = mask; wide = wide }) w ≡ true
unfolding is_within
all_within w base mask wide p q r =
    ap₂ (λ a b. a && b)
    (ap₂ (are_alike w) p q ∙ ap₂ (λ a b. a && b) (everything w.lines) (ap₂ (λ a b. a && b) (everything w.ephemerals) (everything w.cuts)))
    (ap (list_all (λ set. is_in set w)) r)

swapped : (a l f : Bool) → ((a && f) && l) ≡ ((a && l) && f)
swapped true true true = refl
swapped true true false = refl
swapped true false true = refl
swapped true false false = refl
swapped false l f = refl

pub fixed : (w base mask base' mask' : Words) (wide : List ValueSet) (f : Bool) → are_alike w base' mask' ≡ (are_alike w base mask && f) →
    is_within (record { base = base'; mask = mask'; wide = wide }) w ≡ (is_within (record { base = base; mask = mask; wide = wide }) w && f)
unfolding is_within
fixed w base mask base' mask' wide f e =
    ap (λ a. a && list_all (λ set. is_in set w) wide) e ∙ swapped (are_alike w base mask) (list_all (λ set. is_in set w) wide) f

pub pushed : (w base mask : Words) (wide wide' : List ValueSet) (set : ValueSet) → wide' ≡ wide ++ set ∷ [] →
    is_within (record { base = base; mask = mask; wide = wide' }) w
    ≡ (is_within (record { base = base; mask = mask; wide = wide }) w && is_in set w)
unfolding is_within
pushed w base mask wide wide' set e =
    ap (λ xs. are_alike w base mask && list_all (λ s. is_in s w) xs) e
    ∙ ap (λ b. are_alike w base mask && b) (list_all-append (λ s. is_in s w) wide (set ∷ []))
    ∙ last (are_alike w base mask) (list_all (λ s. is_in s w) wide) (is_in set w)
  where
    last : (a l f : Bool) → (a && (l && (f && true))) ≡ ((a && l) && f)
    last true true true = refl
    last true true false = refl
    last true false f = refl
    last false l f = refl

pub asked : (w base mask : Words) (wide : List ValueSet) (a l : Bool) → a ≡ are_alike w base mask → l ≡ list_all (λ set. is_in set w) wide →
    (a && l) ≡ is_within (record { base = base; mask = mask; wide = wide }) w
unfolding is_within
asked w base mask wide a l p q = ap₂ (λ b c. b && c) p q

-- both parts of a state's number
pub state_within : (w : Words) (s low high : ℕ) (all first both : Bool) → all ≡ true → low ≡ s → high ≡ s →
    first ≡ (all && field_of w.lines 0 6 == low % 64) → both ≡ (first && field_of w.lines 60 2 == high / 64) →
    (both ≡ true) ↔ ((configuration_of w).state ≡ s)
unfolding configuration_of
state_within w s low high all first both e p q f g =
    numbers (field_of w.lines 0 6) (field_of w.lines 60 2) (small w.lines 0 6)
    (g ∙ ap (λ b. b && field_of w.lines 60 2 == high / 64) (f ∙ ap (λ b. b && field_of w.lines 0 6 == low % 64) e)
    ∙ ap₂ (λ l h. (field_of w.lines 0 6 == l % 64) && field_of w.lines 60 2 == h / 64) p q)
  where
    numbers : (a b : ℕ) → a < 64 → both ≡ ((a == s % 64) && b == s / 64) → (both ≡ true) ↔ (a + 64 * b ≡ s)
    numbers a b h r = (λ t. to (sym r ∙ t), λ t. r ∙ from t)
      where
        to : ((a == s % 64) && b == s / 64) ≡ true → a + 64 * b ≡ s
        to t = grind (arith, common_steps)

        from : a + 64 * b ≡ s → ((a == s % 64) && b == s / 64) ≡ true
        from t =
            let low : a ≡ s % 64 = omega arith in
            let high : b ≡ s / 64 = omega arith in
            grind (arith, common_steps)

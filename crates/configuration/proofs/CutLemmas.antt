-- The bits of the cuts' word, and the walk over those that are set.
use Rattle.std.proofs.Common.{◌≡◌, ◌≢◌, ℕ, ◌+◌, ◌*◌, ◌/◌, ◌%◌, ◌^◌, ◌<◌, ◌==◌, nat_lt, Bool, true, false, refl, ap, ap₂, sym, subst, ◌∙◌, arith}
use Rattle.std.proofs.lemmas.Grind.{common_steps}
use Rattle.std.proofs.lemmas.Nat.{pow_pos, shr_le, shr_split}
use Rattle.std.proofs.Math.Nat.{mod-eq_of_lt, div-one}
use Rattle.std.proofs.lemmas.Nat.Bits.{bit_at-trailing_zeros}
use Rattle.std.specs.Int.{trailing_zeros, w64}
use Rattle.std.specs.Prelude.{if◌then◌else◌}
use Rattle.mg_model.specs.declared.commands.Termination.{Termination}
use Rattle.mg_model.specs.declared.commands.Termination.TheVariants.{Line, Ephemeral}
use Rattle.configuration.specs.Places.{index_of}
use Rattle.configuration.specs.Fields.{field_of, IsPut}
use Rattle.configuration.specs.Bits.{has}
use Rattle.configuration.specs.Codes.{flag_at}
use Rattle.configuration.specs.Packed.{Words, pair_place}
use Rattle.configuration.specs.Config.{configuration_of}
use Rattle.configuration.specs.Words.{termination_at}
use Rattle.configuration.specs.Tests.{source_of, sink_of, is_bit_right, AreCutsRight}
use Rattle.configuration.proofs.BitLemmas.{has_bit, has_none}
use Rattle.configuration.proofs.PutLemmas.{kept}
use Rattle.configuration.proofs.PairLemmas.{place_at}
use Rattle.configuration.proofs.SlotLemmas.{no_cuts}
use Rattle.configuration.proofs.SumLemmas.{field_split}
use Rattle.configuration.proofs.WordLemmas.{small}

pub pair_small : (m n : ℕ) → m < 8 → n < 8 → pair_place m n < 64
pair_small m n hm hn = by_test (m == n) refl (nat_lt m n) refl
  where
    by_test : (b : Bool) → (m == n) ≡ b → (d : Bool) → nat_lt m n ≡ d → pair_place m n < 64
    by_test b e d f = grind (arith, common_steps)

pub source_pair : (m n : ℕ) → m < 8 → n < 8 → source_of (pair_place m n) ≡ m
source_pair m n hm hn = by_test (m == n) refl (nat_lt m n) refl
  where
    by_test : (b : Bool) → (m == n) ≡ b → (d : Bool) → nat_lt m n ≡ d → source_of (pair_place m n) ≡ m
    by_test true e d f = grind (arith, common_steps)
    by_test false e true f = grind (arith, common_steps)
    by_test false e false f = grind (arith, common_steps)

pub sink_pair : (m n : ℕ) → m < 8 → n < 8 → sink_of (pair_place m n) ≡ n
sink_pair m n hm hn = by_test (m == n) refl (nat_lt m n) refl
  where
    by_test : (b : Bool) → (m == n) ≡ b → (d : Bool) → nat_lt m n ≡ d → sink_of (pair_place m n) ≡ n
    by_test true e d f = grind (arith, common_steps)
    by_test false e true f = grind (arith, common_steps)
    by_test false e false f = grind (arith, common_steps)

pub place_pair : (p : ℕ) → p < 64 → pair_place (source_of p) (sink_of p) ≡ p
place_pair p h = by_test (nat_lt p 56) refl (nat_lt (p % 7) (p / 7)) refl
  where
    by_test : (b : Bool) → nat_lt p 56 ≡ b → (d : Bool) → nat_lt (p % 7) (p / 7) ≡ d → pair_place (source_of p) (sink_of p) ≡ p
    by_test true e true f = grind (arith, common_steps)
    by_test true e false f = grind (arith, common_steps)
    by_test false e d f = grind (arith, common_steps)

pub source_small : (p : ℕ) → p < 64 → source_of p < 8
source_small p h = grind (arith, common_steps)

pub sink_small : (p : ℕ) → p < 64 → sink_of p < 8
sink_small p h = grind (arith, common_steps)

-- the termination at its own place
pub at_place : (t : Termination) → index_of t < 8 → termination_at (index_of t) ≡ t
at_place (Line i) h = by_test (nat_lt i 4) refl h
  where
    by_test : (b : Bool) → nat_lt i 4 ≡ b → (if b then i else 8) < 8 → termination_at (if b then i else 8) ≡ Line i
    by_test true e h = rw e refl
    by_test false e h = absurd (omega arith)
at_place (Ephemeral k) h = grind (arith, common_steps)

-- a cut is a bit
pub cut_bit : (w : Words) (t u : Termination) → index_of t < 8 → index_of u < 8 →
    (configuration_of w).cut t u ≡ has w.cuts (pair_place (index_of t) (index_of u))
unfolding configuration_of has
cut_bit w t u ht hu =
    let inside : nat_lt (index_of t) 8 ≡ true = grind (arith, common_steps) in
    let other_inside : nat_lt (index_of u) 8 ≡ true = grind (arith, common_steps) in
    rw (inside, other_inside) refl

pub bit_cut : (w : Words) (p : ℕ) → p < 64 →
    (configuration_of w).cut (termination_at (source_of p)) (termination_at (sink_of p)) ≡ has w.cuts p
bit_cut w p h =
    let first = place_at (source_of p) (source_small p h) in
    let second = place_at (sink_of p) (sink_small p h) in
    cut_bit w _ _ (subst (λ (n : ℕ). n < 8) (sym first) (source_small p h)) (subst (λ (n : ℕ). n < 8) (sym second) (sink_small p h))
    ∙ ap (has w.cuts) (rw (first, second) (place_pair p h))

-- all set bits are right: so are the cuts
pub bits_right : (w : Words) → ((p : ℕ) → p < 64 → has w.cuts p ≡ true → is_bit_right (configuration_of w) p ≡ true) →
    AreCutsRight (configuration_of w)
bits_right w right t u cut =
    let places = no_cuts w t u cut in
    let bit : has w.cuts (pair_place (index_of t) (index_of u)) ≡ true = sym (cut_bit w t u places.0 places.1) ∙ cut in
    let found = right (pair_place (index_of t) (index_of u)) (pair_small (index_of t) (index_of u) places.0 places.1) bit in
    rw (source_pair (index_of t) (index_of u) places.0 places.1, sink_pair (index_of t) (index_of u) places.0 places.1, at_place t places.0, at_place u places.1) at found

pub right_bit : (w : Words) → AreCutsRight (configuration_of w) → (p : ℕ) → p < 64 → has w.cuts p ≡ true → is_bit_right (configuration_of w) p ≡ true
right_bit w right p h bit = right (termination_at (source_of p)) (termination_at (sink_of p)) (bit_cut w p h ∙ bit)

-- what the walk has left of the set bits, and that those before it are right
pub record IsWalked (w : Words) (left : ℕ) : Type 0 where
  pub fits : left < 2 ^ 64
  pub within : (p : ℕ) → has left p ≡ true → has w.cuts p ≡ true
  pub right : (p : ℕ) → p < 64 → has w.cuts p ≡ true → has left p ≡ false → is_bit_right (configuration_of w) p ≡ true

pub lowest : (left : ℕ) → 0 < left → left < 2 ^ 64 → has left (trailing_zeros w64 left) ≡ true
lowest left h fits = has_bit left (trailing_zeros w64 left) ∙ ap flag_at (bit_at-trailing_zeros w64 left h fits).1

pub lowest_small : (left : ℕ) → 0 < left → left < 2 ^ 64 → trailing_zeros w64 left < 64
lowest_small left h fits = (bit_at-trailing_zeros w64 left h fits).0

-- a word of what is above a bit, the bit, and what is below it
pub around : (v p : ℕ) → v < 2 ^ 64 → v ≡ (field_of v (p + 1) 63 * 2 + field_of v p 1) * 2 ^ p + field_of v 0 p
unfolding field_of
around v p fits =
    let high : v / 2 ^ p < 2 ^ 64 = omega (arith, shr_le v p, fits) in
    let above : v / 2 ^ p ≡ v / 2 ^ (p + 1) % 2 ^ 63 * 2 + v / 2 ^ p % 2 = sym (mod-eq_of_lt high) ∙ field_split v p 1 63 in
    sym (shr_split v p) ∙ ap₂ (λ a b. a * 2 ^ p + b) above (ap (λ n. n % 2 ^ p) (sym (div-one v)))

-- a bit is taken off
pub off_here : {new old p : ℕ} → IsPut new old p 1 0 → has new p ≡ false
unfolding has
off_here put = ap flag_at put.here

pub off_other : {new old p : ℕ} → IsPut new old p 1 0 → (q : ℕ) → q ≢ p → has new q ≡ has old q
unfolding has
off_other put q other = ap flag_at (kept put q 1 (λ a b. other (omega arith)))

pub off_less : (new old p : ℕ) → p < 64 → new < 2 ^ 64 → old < 2 ^ 64 → IsPut new old p 1 0 → has old p ≡ true → new < old
unfolding has
off_less new old p h fits_new fits put bit =
    let high : field_of new (p + 1) 63 ≡ field_of old (p + 1) 63 = put.above (p + 1) 63 (omega arith) in
    let low : field_of new 0 p ≡ field_of old 0 p = put.below 0 p (omega arith) in
    let one : field_of old p 1 ≡ 1 = one_bit (field_of old p 1) (small old p 1) bit in
    let after : new ≡ (field_of old (p + 1) 63 * 2 + 0) * 2 ^ p + field_of old 0 p =
    around new p fits_new ∙ ap₂ (λ a b. (a * 2 + b) * 2 ^ p + field_of new 0 p) high put.here ∙ ap (λ l. (field_of old (p + 1) 63 * 2 + 0) * 2 ^ p + l) low in
    let before : old ≡ (field_of old (p + 1) 63 * 2 + 1) * 2 ^ p + field_of old 0 p =
    around old p fits ∙ ap (λ b. (field_of old (p + 1) 63 * 2 + b) * 2 ^ p + field_of old 0 p) one in
    less_by_one new old (field_of old (p + 1) 63) (2 ^ p) (field_of old 0 p) after before (pow_pos p)
  where
    one_bit : (n : ℕ) → n < 2 → flag_at n ≡ true → n ≡ 1
    one_bit n h e = grind (arith, common_steps)

    less_by_one : (x y a q l : ℕ) → x ≡ (a * 2 + 0) * q + l → y ≡ (a * 2 + 1) * q + l → 0 < q → x < y
    less_by_one x y a q l e f h = omega arith

pub walked_on : (w : Words) (left new p : ℕ) → IsWalked w left → IsPut new left p 1 0 → new < 2 ^ 64 →
    is_bit_right (configuration_of w) p ≡ true → IsWalked w new
walked_on w left new p walked put fits here = record {
  fits = fits;
  within = λ q h. by_test q (q == p) refl h;
  right = λ q l cut h. by_place q (q == p) refl l cut h;
}
  where
    by_test : (q : ℕ) (b : Bool) → (q == p) ≡ b → has new q ≡ true → has w.cuts q ≡ true
    by_test q true e h =
        let same : q ≡ p = grind (arith, common_steps) in
        let off : has new q ≡ false = ap (has new) same ∙ off_here put in
        let bad : true ≡ false = sym h ∙ off in cc
    by_test q false e h =
        let other : q ≢ p = grind (arith, common_steps) in walked.within q (sym (off_other put q other) ∙ h)

    by_place : (q : ℕ) (b : Bool) → (q == p) ≡ b → q < 64 → has w.cuts q ≡ true → has new q ≡ false → is_bit_right (configuration_of w) q ≡ true
    by_place q true e l cut h =
        let same : q ≡ p = grind (arith, common_steps) in
        subst (λ (n : ℕ). is_bit_right (configuration_of w) n ≡ true) (sym same) here
    by_place q false e l cut h =
        let other : q ≢ p = grind (arith, common_steps) in walked.right q l cut (sym (off_other put q other) ∙ h)

-- where nothing is left, all cuts are right
pub walked_all : (w : Words) (left : ℕ) → IsWalked w left → left ≡ 0 → AreCutsRight (configuration_of w)
walked_all w left walked none = bits_right w (λ p l cut. walked.right p l cut (ap (λ n. has n p) none ∙ has_none p))

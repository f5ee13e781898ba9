-- Bits of rows that some members have.
use Rattle.std.proofs.Common.{◌≡◌, ◌∙◌, ℕ, ◌+◌, ◌-◌, ◌*◌, ◌%◌, ◌^◌, ◌<◌, ◌≤◌, ◌==◌, nat_lt, Bool, true, false, not, ◌&&◌, ◌||◌, List, length, slice_index, slice_set, get_or-set_other, get_or-set_same, length-set, bit_and, ap, refl, sym, arith}
use Rattle.std.specs.Int.{bit_at}
use Rattle.std.proofs.lemmas.Bool.{eqb-true, eqb-false, ne_eqb}
use Rattle.std.proofs.lemmas.Grind.{common_steps}
use Rattle.std.proofs.lemmas.Nat.{one_shl}
use Rattle.std.proofs.lemmas.Nat.Bits.{bit_at_ones, bit_at_ones_above}
use Rattle.configuration.specs.Bits.{has}
use Rattle.configuration.specs.Codes.{flag_at}
use Rattle.configuration.proofs.BitLemmas.{has_and, has_bit, has_none}
use Rattle.configuration.proofs.FieldLemmas.{power_le}

-- a row of every member
pub has_every : (b : ℕ) → b < 64 → has (2 ^ 64 - 1) b ≡ true
has_every b h = has_bit (2 ^ 64 - 1) b ∙ ap flag_at (bit_at_ones 64 b h)

-- a row of the first members
pub has_first : (n b : ℕ) → n < 64 → has (1 * 2 ^ n % 2 ^ 64 - 1) b ≡ nat_lt b n
has_first n b h = ap (λ m. has (m - 1) b) (one_shl n 64 h) ∙ has_bit (2 ^ n - 1) b ∙ by_test (nat_lt b n) refl
  where
    by_test : (t : Bool) → nat_lt b n ≡ t → flag_at (bit_at (2 ^ n - 1) b) ≡ t
    by_test true e = ap flag_at (bit_at_ones n b (grind (arith, common_steps)))
    by_test false e = ap flag_at (bit_at_ones_above n b (grind (arith, common_steps)))

-- some rows are narrowed, and the rest are as they were
pub record AreNarrowedBelow (rows first : List ℕ) (members allowed i : ℕ) : Type 0 where
  pub long : length rows ≡ 32
  pub done : (n b : ℕ) → n < i → b < 64
      → has (slice_index rows n) b ≡ (has (slice_index first n) b && (not (has members b) || has allowed n))
  pub rest : (n : ℕ) → i ≤ n → slice_index rows n ≡ slice_index first n

pub one_more : (rows first : List ℕ) (members allowed i row : ℕ) → i < 32
    → ((b : ℕ) → b < 64 → has row b ≡ (has (slice_index rows i) b && (not (has members b) || has allowed i)))
    → AreNarrowedBelow rows first members allowed i → AreNarrowedBelow (slice_set rows i row) first members allowed (i + 1)
one_more rows first members allowed i row below is before = record {
  long = length-set rows i row ∙ before.long;
  done = λ n b under small. by_test n b under small (n == i) refl;
  rest = λ n above.
      let other : n ≡ i → ⊥ = λ same. absurd (omega arith) in
      get_or-set_other rows i n row 0 other ∙ before.rest n (omega arith);
}
  where
    within : i < length rows
    within = omega (arith, before.long)

    by_test : (n b : ℕ) → n < i + 1 → b < 64 → (t : Bool) → (n == i) ≡ t
        → has (slice_index (slice_set rows i row) n) b ≡ (has (slice_index first n) b && (not (has members b) || has allowed n))
    by_test n b under small true e =
        let same : n ≡ i = eqb-true n i e in
        ap (λ k. has (slice_index (slice_set rows i row) k) b) same ∙ ap (λ r. has r b) (get_or-set_same rows i row 0 within) ∙ is b small
        ∙ ap (λ r. has r b && (not (has members b) || has allowed i)) (before.rest i (omega arith))
        ∙ ap (λ k. has (slice_index first k) b && (not (has members b) || has allowed k)) (sym same)
    by_test n b under small false e =
        let other = eqb-false n i e in
        ap (λ r. has r b) (get_or-set_other rows i n row 0 other) ∙ before.done n b (not_last n other under) small
      where
        not_last : (n : ℕ) → (n ≡ i → ⊥) → n < i + 1 → n < i
        not_last n other below = omega arith

-- a number of at most 5 bits
pub below_32 : (bits i : ℕ) → bits ≤ 5 → i < 1 * 2 ^ bits % 2 ^ 64 → i < 32
below_32 bits i few below = omega (arith, one_shl bits 64 (omega arith), power_le bits 5 few)

pub below_shifted : (bits i : ℕ) → bits ≤ 5 → i < 1 * 2 ^ bits % 2 ^ 64 → i < 2 ^ bits
below_shifted bits i few below = omega (arith, one_shl bits 64 (omega arith))

pub past_shifted : (bits n i : ℕ) → bits ≤ 5 → 1 * 2 ^ bits % 2 ^ 64 ≤ i → n < 2 ^ bits → n < i
past_shifted bits n i few past below = omega (arith, one_shl bits 64 (omega arith))

-- a row with all of some members has each of them, and one with none of them has none
pub has_all : (row members b : ℕ) → bit_and row members ≡ members → has members b ≡ true → has row b ≡ true
has_all row members b is has_b = first (has row b) (has members b) has_b (sym (has_and row members b) ∙ ap (λ r. has r b) is ∙ has_b)
  where
    first : (a c : Bool) → c ≡ true → (a && c) ≡ true → a ≡ true
    first true c p q = refl
    first false c p q = absurd (cc)

pub has_not_any : (row members b : ℕ) → bit_and row members ≡ 0 → has members b ≡ true → has row b ≡ false
has_not_any row members b is has_b = first (has row b) (has members b) has_b (sym (has_and row members b) ∙ ap (λ r. has r b) is ∙ has_none b)
  where
    first : (a c : Bool) → c ≡ true → (a && c) ≡ false → a ≡ false
    first true true p q = absurd (cc)
    first true false p q = absurd (cc)
    first false c p q = refl

-- one row more is clear
pub one_more_clear : (rows : List ℕ) (members number i : ℕ) → ((i == number) ≡ false → (b : ℕ) → has members b ≡ true → has (slice_index rows i) b ≡ false)
    → ((n b : ℕ) → n < i → (n ≡ number → ⊥) → has members b ≡ true → has (slice_index rows n) b ≡ false)
    → (n b : ℕ) → n < i + 1 → (n ≡ number → ⊥) → has members b ≡ true → has (slice_index rows n) b ≡ false
one_more_clear rows members number i clear before n b below apart has_b = by_test (n == i) refl
  where
    by_test : (t : Bool) → (n == i) ≡ t → has (slice_index rows n) b ≡ false
    by_test true e =
        let same : n ≡ i = eqb-true n i e in
        ap (λ k. has (slice_index rows k) b) same ∙ clear (ne_eqb i number (λ is. apart (same ∙ is))) b has_b
    by_test false e =
        let other = eqb-false n i e in
        before n b (not_last n other below) apart has_b
      where
        not_last : (n : ℕ) → (n ≡ i → ⊥) → n < i + 1 → n < i
        not_last n other below = omega arith

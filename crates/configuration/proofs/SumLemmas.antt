-- A word as the sum of its fields.
use Rattle.std.proofs.Common.{◌≡◌, ℕ, ◌+◌, ◌*◌, ◌/◌, ◌%◌, ◌^◌, ◌<◌, ap, ◌∙◌, arith}
use Rattle.std.proofs.lemmas.Nat.{mod-pow-add, shr-shr}
use Rattle.std.proofs.Math.Nat.{mod-eq_of_lt, div-one}
use Rattle.configuration.specs.Fields.{field_of}

-- a field of two parts
pub field_split : (v at a b : ℕ) → field_of v at (b + a) ≡ field_of v (at + a) b * 2 ^ a + field_of v at a
unfolding field_of
field_split v at a b =
    mod-pow-add (v / 2 ^ at) b a ∙ ap (λ x. x % 2 ^ b * 2 ^ a + v / 2 ^ at % 2 ^ a) (shr-shr v at a)

-- all bits of a word
pub all_bits : (v : ℕ) → v < 2 ^ 64 → field_of v 0 64 ≡ v
unfolding field_of
all_bits v h = ap (λ x. x % 2 ^ 64) (div-one v) ∙ mod-eq_of_lt h

-- a line's eleven bits
pub line_sum : (v at : ℕ) →
    field_of v at 11
    ≡ field_of v at 3 + field_of v (at + 3) 2 * 2 ^ 3 + field_of v (at + 5) 5 * 2 ^ 5 + field_of v (at + 10) 1 * 2 ^ 10
line_sum v at =
    let first : field_of v at 11 ≡ field_of v (at + 10) 1 * 2 ^ 10 + field_of v at 10 = field_split v at 10 1 in
    let second : field_of v at 10 ≡ field_of v (at + 5) 5 * 2 ^ 5 + field_of v at 5 = field_split v at 5 5 in
    let third : field_of v at 5 ≡ field_of v (at + 3) 2 * 2 ^ 3 + field_of v at 3 = field_split v at 3 2 in
    omega arith

-- an ephemeral's eight bits
pub ephemeral_sum : (v at : ℕ) →
    field_of v at 8 ≡ field_of v at 3 + field_of v (at + 3) 2 * 2 ^ 3 + field_of v (at + 5) 3 * 2 ^ 5
ephemeral_sum v at =
    let first : field_of v at 8 ≡ field_of v (at + 5) 3 * 2 ^ 5 + field_of v at 5 = field_split v at 5 3 in
    let second : field_of v at 5 ≡ field_of v (at + 3) 2 * 2 ^ 3 + field_of v at 3 = field_split v at 3 2 in
    omega arith

-- the first word, but for what is above the contexts
pub first_sum : (v : ℕ) →
    field_of v 0 60
    ≡ field_of v 0 6 + field_of v 6 2 * 2 ^ 6 + field_of v 8 11 * 2 ^ 8 + field_of v 19 11 * 2 ^ 19 + field_of v 30 11 * 2 ^ 30
    + field_of v 41 11 * 2 ^ 41 + field_of v 52 2 * 2 ^ 52 + field_of v 54 2 * 2 ^ 54 + field_of v 56 2 * 2 ^ 56 + field_of v 58 2 * 2 ^ 58
first_sum v =
    let s0 : field_of v 0 60 ≡ field_of v 6 54 * 2 ^ 6 + field_of v 0 6 = field_split v 0 6 54 in
    let s1 : field_of v 6 54 ≡ field_of v 8 52 * 2 ^ 2 + field_of v 6 2 = field_split v 6 2 52 in
    let s2 : field_of v 8 52 ≡ field_of v 19 41 * 2 ^ 11 + field_of v 8 11 = field_split v 8 11 41 in
    let s3 : field_of v 19 41 ≡ field_of v 30 30 * 2 ^ 11 + field_of v 19 11 = field_split v 19 11 30 in
    let s4 : field_of v 30 30 ≡ field_of v 41 19 * 2 ^ 11 + field_of v 30 11 = field_split v 30 11 19 in
    let s5 : field_of v 41 19 ≡ field_of v 52 8 * 2 ^ 11 + field_of v 41 11 = field_split v 41 11 8 in
    let s6 : field_of v 52 8 ≡ field_of v 54 6 * 2 ^ 2 + field_of v 52 2 = field_split v 52 2 6 in
    let s7 : field_of v 54 6 ≡ field_of v 56 4 * 2 ^ 2 + field_of v 54 2 = field_split v 54 2 4 in
    let s8 : field_of v 56 4 ≡ field_of v 58 2 * 2 ^ 2 + field_of v 56 2 = field_split v 56 2 2 in
    omega arith

-- the second word
pub second_sum : (v : ℕ) →
    field_of v 0 32 ≡ field_of v 0 8 + field_of v 8 8 * 2 ^ 8 + field_of v 16 8 * 2 ^ 16 + field_of v 24 8 * 2 ^ 24
second_sum v =
    let s0 : field_of v 0 32 ≡ field_of v 8 24 * 2 ^ 8 + field_of v 0 8 = field_split v 0 8 24 in
    let s1 : field_of v 8 24 ≡ field_of v 16 16 * 2 ^ 8 + field_of v 8 8 = field_split v 8 8 16 in
    let s2 : field_of v 16 16 ≡ field_of v 24 8 * 2 ^ 8 + field_of v 16 8 = field_split v 16 8 8 in
    omega arith

-- seven bits
pub seven_sum : (v at : ℕ) →
    field_of v at 7
    ≡ field_of v at 1 + field_of v (at + 1) 1 * 2 ^ 1 + field_of v (at + 2) 1 * 2 ^ 2 + field_of v (at + 3) 1 * 2 ^ 3
    + field_of v (at + 4) 1 * 2 ^ 4 + field_of v (at + 5) 1 * 2 ^ 5 + field_of v (at + 6) 1 * 2 ^ 6
seven_sum v at =
    let s6 : field_of v at 7 ≡ field_of v (at + 6) 1 * 2 ^ 6 + field_of v at 6 = field_split v at 6 1 in
    let s5 : field_of v at 6 ≡ field_of v (at + 5) 1 * 2 ^ 5 + field_of v at 5 = field_split v at 5 1 in
    let s4 : field_of v at 5 ≡ field_of v (at + 4) 1 * 2 ^ 4 + field_of v at 4 = field_split v at 4 1 in
    let s3 : field_of v at 4 ≡ field_of v (at + 3) 1 * 2 ^ 3 + field_of v at 3 = field_split v at 3 1 in
    let s2 : field_of v at 3 ≡ field_of v (at + 2) 1 * 2 ^ 2 + field_of v at 2 = field_split v at 2 1 in
    let s1 : field_of v at 2 ≡ field_of v (at + 1) 1 * 2 ^ 1 + field_of v at 1 = field_split v at 1 1 in
    omega arith

-- eight rows of seven bits
pub rows_sum : (v : ℕ) →
    field_of v 0 56
    ≡ field_of v 0 7 + field_of v 7 7 * 2 ^ 7 + field_of v 14 7 * 2 ^ 14 + field_of v 21 7 * 2 ^ 21 + field_of v 28 7 * 2 ^ 28
    + field_of v 35 7 * 2 ^ 35 + field_of v 42 7 * 2 ^ 42 + field_of v 49 7 * 2 ^ 49
rows_sum v =
    let s0 : field_of v 0 56 ≡ field_of v 7 49 * 2 ^ 7 + field_of v 0 7 = field_split v 0 7 49 in
    let s1 : field_of v 7 49 ≡ field_of v 14 42 * 2 ^ 7 + field_of v 7 7 = field_split v 7 7 42 in
    let s2 : field_of v 14 42 ≡ field_of v 21 35 * 2 ^ 7 + field_of v 14 7 = field_split v 14 7 35 in
    let s3 : field_of v 21 35 ≡ field_of v 28 28 * 2 ^ 7 + field_of v 21 7 = field_split v 21 7 28 in
    let s4 : field_of v 28 28 ≡ field_of v 35 21 * 2 ^ 7 + field_of v 28 7 = field_split v 28 7 21 in
    let s5 : field_of v 35 21 ≡ field_of v 42 14 * 2 ^ 7 + field_of v 35 7 = field_split v 35 7 14 in
    let s6 : field_of v 42 14 ≡ field_of v 49 7 * 2 ^ 7 + field_of v 42 7 = field_split v 42 7 7 in
    omega arith

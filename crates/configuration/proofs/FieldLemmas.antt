-- Fields of a word in which some bits were turned.
use Rattle.std.proofs.Common.{◌≡◌, ◌∙◌, ℕ, ◌+◌, ◌-◌, ◌*◌, ◌/◌, ◌%◌, ◌^◌, ◌≤◌, ◌<◌, arith, ap, sym, bit_and}
use Rattle.std.specs.Int.RustNames.{bit_xor}
use Rattle.std.specs.Int.Bits.{xor_zero_r, xor_zero_l, xor_assoc, xor_self}
use Rattle.std.proofs.lemmas.Nat.{xor_shr, xor_mod, and_mask, one_shl, shl_whole, shl-shr, mod_below, pow_pos, pow-add, shl_below}
use Rattle.std.proofs.Math.Nat.{mod-eq_of_lt, div-eq_of_lt, mul-mod_left, pow-le-pow_right, zero-mod}
use Rattle.configuration.specs.Fields.{field_of}

pub field_xor : (a b i n : ℕ) → field_of (bit_xor a b) i n ≡ bit_xor (field_of a i n) (field_of b i n)
unfolding field_of
field_xor a b i n = ap (λ x. x % 2 ^ n) (xor_shr a b i) ∙ xor_mod (a / 2 ^ i) (b / 2 ^ i) n

-- a field in which nothing is turned
pub unturned : (a b i n : ℕ) → field_of b i n ≡ 0 → field_of (bit_xor a b) i n ≡ field_of a i n
unfolding field_of
unturned a b i n e = field_xor a b i n ∙ ap (bit_xor (field_of a i n)) e ∙ xor_zero_r (field_of a i n)

-- what the code masks
pub masked : (x bits : ℕ) → bits < 64 → bit_and x (1 * 2 ^ bits % 2 ^ 64 - 1) ≡ x % 2 ^ bits
masked x bits h = ap (λ m. bit_and x (m - 1)) (one_shl bits 64 h) ∙ and_mask x bits

-- what the code turns
pub turned : (x at bits : ℕ) → bits < 64 → at + bits ≤ 64
    → bit_and x (1 * 2 ^ bits % 2 ^ 64 - 1) * 2 ^ at % 2 ^ 64 ≡ x % 2 ^ bits * 2 ^ at
turned x at bits h w =
    ap (λ d. d * 2 ^ at % 2 ^ 64) (masked x bits h)
    ∙ shl_whole (x % 2 ^ bits) bits at 64 (mod_below x (2 ^ bits) (pow_pos bits)) (omega (arith, w))

-- some bits from a place on, read from there
pub field_here : (d at bits : ℕ) → d < 2 ^ bits → field_of (d * 2 ^ at) at bits ≡ d
unfolding field_of
field_here d at bits h = ap (λ x. x % 2 ^ bits) (shl-shr d at) ∙ mod-eq_of_lt h

pub power_le : (i j : ℕ) → i ≤ j → 2 ^ i ≤ 2 ^ j
power_le i j h = pow-le-pow_right two h
  where
    two : 0 < 2
    two = omega arith

-- read from above
pub field_above : (d at bits i n : ℕ) → d < 2 ^ bits → at + bits ≤ i → field_of (d * 2 ^ at) i n ≡ 0
unfolding field_of
field_above d at bits i n h w =
    let within : bits + at ≤ i = omega (arith, w) in
    let low : d * 2 ^ at < 2 ^ i = omega (arith, shl_below d bits at h, power_le (bits + at) i within) in
    ap (λ x. x % 2 ^ n) (div-eq_of_lt low) ∙ zero-mod (2 ^ n)

-- read from below
pub field_below : (d at i n : ℕ) → i + n ≤ at → field_of (d * 2 ^ at) i n ≡ 0
unfolding field_of
field_below d at i n w =
    let k = at - (i + n) in
    let sum : at ≡ k + (i + n) = omega (arith, w) in
    let power : 2 ^ at ≡ 2 ^ k * (2 ^ i * 2 ^ n) = ap (λ e. 2 ^ e) sum ∙ pow-add 2 k (i + n) ∙ ap (λ x. 2 ^ k * x) (pow-add 2 i n) in
    let whole : d * 2 ^ at ≡ (d * 2 ^ k * 2 ^ n) * 2 ^ i = ap (λ x. d * x) power ∙ turned_round d (2 ^ k) (2 ^ i) (2 ^ n) in
    ap (λ x. x / 2 ^ i % 2 ^ n) whole ∙ ap (λ x. x % 2 ^ n) (shl-shr (d * 2 ^ k * 2 ^ n) i) ∙ mul-mod_left (d * 2 ^ k) (2 ^ n)
  where
    turned_round : (a b c e : ℕ) → a * (b * (c * e)) ≡ (a * b * e) * c
    turned_round a b c e = omega arith

pub xor_back : (a b : ℕ) → bit_xor a (bit_xor a b) ≡ b
xor_back a b = sym (xor_assoc a a b) ∙ ap (λ x. bit_xor x b) (xor_self a) ∙ xor_zero_l b

-- the value that was put
pub put_here : (word at bits value : ℕ) → bits < 64 → at + bits ≤ 64 → value < 2 ^ bits
    → field_of (bit_xor word (bit_xor (word / 2 ^ at) value % 2 ^ bits * 2 ^ at)) at bits ≡ value
unfolding field_of
put_here word at bits value h w small =
    let x = bit_xor (word / 2 ^ at) value in
    field_xor word (x % 2 ^ bits * 2 ^ at) at bits
    ∙ ap (bit_xor (field_of word at bits)) (field_here (x % 2 ^ bits) at bits (mod_below x (2 ^ bits) (pow_pos bits))
    ∙ xor_mod (word / 2 ^ at) value bits ∙ ap (bit_xor (field_of word at bits)) (mod-eq_of_lt small))
    ∙ xor_back (field_of word at bits) value

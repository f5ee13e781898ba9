-- Single bits of words that are shifted and joined.
use Rattle.std.proofs.Common.{◌≡◌, ◌≢◌, ℕ, ◌+◌, ◌-◌, ◌*◌, ◌/◌, ◌%◌, ◌^◌, ◌<◌, ◌==◌, nat_lt, Bool, true, false, not, zero, suc, ◌||◌, ◌&&◌, min, max, refl, ap, ap₂, sym, ◌∙◌, arith, bit_and}
use Rattle.std.proofs.lemmas.Grind.{common_steps}
use Rattle.std.specs.Int.RustNames.{bit_or, bit_xor}
use Rattle.std.specs.Int.{bit_at, w64}
use Rattle.std.proofs.lemmas.Nat.{one_shl, and_mask, shl-shr, shr-shr}
use Rattle.std.proofs.lemmas.Nat.Bits.{bit_at_ones, bit_at_ones_above, bit_at_cat_low, bit_at_not, bit_at_or, bit_at_and, bit_at_xor, bit_at-lt, bit_at-zero, bit_at-pow_same, bit_at-pow_other, same_from_bits}
use Rattle.configuration.specs.Fields.{field_of}
use Rattle.configuration.specs.Codes.{flag_at, flag_code}
use Rattle.configuration.specs.Bits.{has}

-- a bit by its number
pub has_bit : (x p : ℕ) → has x p ≡ flag_at (bit_at x p)
unfolding has field_of
has_bit x p = refl

pub field_bit : (x a n p : ℕ) → bit_at (field_of x a n) p ≡ min (bit_at x (a + p)) (bit_at (2 ^ n - 1) p)
unfolding field_of
field_bit x a n p =
    ap (λ m. bit_at m p) (sym (and_mask (x / 2 ^ a) n)) ∙ bit_at_and (x / 2 ^ a) (2 ^ n - 1) p
    ∙ ap (λ m. min (m % 2) (bit_at (2 ^ n - 1) p)) (shr-shr x a p)

pub has_or : (a b p : ℕ) → has (bit_or a b) p ≡ (has a p || has b p)
has_or a b p =
    has_bit (bit_or a b) p ∙ ap flag_at (bit_at_or a b p) ∙ either (bit_at a p) (bit_at b p)
    ∙ sym (ap₂ (λ c d. c || d) (has_bit a p) (has_bit b p))
  where
    either : (c d : ℕ) → flag_at (max c d) ≡ (flag_at c || flag_at d)
    either c d = grind (arith, common_steps)

pub has_and : (a b p : ℕ) → has (bit_and a b) p ≡ (has a p && has b p)
has_and a b p =
    has_bit (bit_and a b) p ∙ ap flag_at (bit_at_and a b p) ∙ both (bit_at a p) (bit_at b p)
    ∙ sym (ap₂ (λ c d. c && d) (has_bit a p) (has_bit b p))
  where
    both : (c d : ℕ) → flag_at (min c d) ≡ (flag_at c && flag_at d)
    both c d = grind (arith, common_steps)

-- a single bit
pub has_one : (k p : ℕ) → k < 64 → has (1 * 2 ^ k % 2 ^ 64) p ≡ (p == k)
has_one k p h = ap (λ x. has x p) (one_shl k 64 h) ∙ has_bit (2 ^ k) p ∙ by_test (p == k) refl
  where
    by_test : (b : Bool) → (p == k) ≡ b → flag_at (bit_at (2 ^ k) p) ≡ b
    by_test true e =
        let same : p ≡ k = grind (arith, common_steps) in
        ap flag_at (ap (bit_at (2 ^ k)) same ∙ bit_at-pow_same k)
    by_test false e =
        let other : p ≢ k = grind (arith, common_steps) in
        ap flag_at (bit_at-pow_other k p other)

pub has_none : (p : ℕ) → has 0 p ≡ false
has_none p = has_bit 0 p ∙ ap flag_at (bit_at-zero p)

-- what is above 64 bits is lost
pub kept_bit : (n q : ℕ) → q < 64 → bit_at (n % 2 ^ 64) q ≡ bit_at n q
kept_bit n q h =
    ap (λ m. bit_at m q) (sym (and_mask n 64)) ∙ bit_at_and n (2 ^ 64 - 1) q ∙ ap (min (bit_at n q)) (bit_at_ones 64 q h)
    ∙ one_or_none (bit_at n q) (bit_at-lt n q)
  where
    one_or_none : (b : ℕ) → b < 2 → min b 1 ≡ b
    one_or_none b h = omega arith

-- a shifted word, of which what is above its 64 bits is lost
pub has_shifted : (x k p : ℕ) → k + p < 64 → has (x * 2 ^ k % 2 ^ 64) (k + p) ≡ has x p
has_shifted x k p h =
    has_bit (x * 2 ^ k % 2 ^ 64) (k + p) ∙ ap flag_at (kept_bit (x * 2 ^ k) (k + p) h ∙ moved x k p) ∙ sym (has_bit x p)
  where
    moved : (x k p : ℕ) → bit_at (x * 2 ^ k) (k + p) ≡ bit_at x p
    moved x k p =
        ap (λ n. n % 2) (sym (shr-shr (x * 2 ^ k) k p) ∙ ap (λ n. n / 2 ^ p) (shl-shr x k))

-- below where a word was shifted to there is nothing
pub has_below : (x k p : ℕ) → p < k → p < 64 → has (x * 2 ^ k % 2 ^ 64) p ≡ false
has_below x k p h l =
    let whole : x * 2 ^ k ≡ x * 2 ^ k + 0 = omega arith in
    has_bit (x * 2 ^ k % 2 ^ 64) p
    ∙ ap flag_at (kept_bit (x * 2 ^ k) p l ∙ ap (λ n. bit_at n p) whole ∙ bit_at_cat_low x k 0 p h ∙ bit_at-zero p)

-- a field's bits
pub has_field : (x a n p : ℕ) → has (field_of x a n) p ≡ (nat_lt p n && has x (a + p))
has_field x a n p =
    has_bit (field_of x a n) p ∙ ap flag_at (masked_bit x a n p) ∙ by_test (nat_lt p n) refl ∙ ap (λ b. nat_lt p n && b) (sym (has_bit x (a + p)))
  where
    masked_bit : (x a n p : ℕ) → bit_at (field_of x a n) p ≡ min (bit_at x (a + p)) (bit_at (2 ^ n - 1) p)
    masked_bit x a n p = field_bit x a n p

    by_test : (b : Bool) → nat_lt p n ≡ b → flag_at (min (bit_at x (a + p)) (bit_at (2 ^ n - 1) p)) ≡ (b && flag_at (bit_at x (a + p)))
    by_test true e =
        let one : bit_at (2 ^ n - 1) p ≡ 1 = bit_at_ones n p (grind (arith, common_steps)) in
        ap (λ b. flag_at (min (bit_at x (a + p)) b)) one ∙ least (bit_at x (a + p)) (bit_at-lt x (a + p))
      where
        least : (b : ℕ) → b < 2 → flag_at (min b 1) ≡ flag_at b
        least b h = grind (arith, common_steps)
    by_test false e =
        let none : bit_at (2 ^ n - 1) p ≡ 0 = bit_at_ones_above n p (grind (arith, common_steps)) in
        ap (λ b. flag_at (min (bit_at x (a + p)) b)) none ∙ least (bit_at x (a + p))
      where
        least : (b : ℕ) → flag_at (min b 0) ≡ false
        least b = grind (arith, common_steps)

-- the other bits of a word
pub has_not : (b p : ℕ) → b < 2 ^ 64 → p < 64 → has (2 ^ 64 - 1 - b) p ≡ not (has b p)
has_not b p h l =
    has_bit (2 ^ 64 - 1 - b) p ∙ ap flag_at (bit_at_not w64 b p h l) ∙ other (bit_at b p) (bit_at-lt b p) ∙ ap not (sym (has_bit b p))
  where
    other : (n : ℕ) → n < 2 → flag_at (1 - n) ≡ not (flag_at n)
    other n h = grind (arith, common_steps)

-- two words differ in a bit where one of them has it
pub has_xor : (a b p : ℕ) → has (bit_xor a b) p ≡ false → has a p ≡ has b p
has_xor a b p e =
    has_bit a p ∙ same (bit_at a p) (bit_at b p) (bit_at-lt a p) (bit_at-lt b p) (sym (ap flag_at (bit_at_xor a b p)) ∙ sym (has_bit (bit_xor a b) p) ∙ e)
    ∙ sym (has_bit b p)
  where
    same : (c d : ℕ) → c < 2 → d < 2 → flag_at ((c + d) % 2) ≡ false → flag_at c ≡ flag_at d
    same c d h k e = grind (arith, common_steps)

pub xor_none : (a b p : ℕ) → has a p ≡ has b p → has (bit_xor a b) p ≡ false
xor_none a b p e =
    has_bit (bit_xor a b) p ∙ ap flag_at (bit_at_xor a b p)
    ∙ none (bit_at a p) (bit_at b p) (bit_at-lt a p) (bit_at-lt b p) (sym (has_bit a p) ∙ e ∙ has_bit b p)
  where
    none : (c d : ℕ) → c < 2 → d < 2 → flag_at c ≡ flag_at d → flag_at ((c + d) % 2) ≡ false
    none c d h k e = grind (arith, common_steps)

-- the mask of the four contexts has their low bits
pub context_mask-has : (j : ℕ) → j < 4 → has 382805968326492160 (52 + 2 * j) ≡ true
unfolding has field_of
context_mask-has zero h = refl
context_mask-has (suc zero) h = refl
context_mask-has (suc (suc zero)) h = refl
context_mask-has (suc (suc (suc zero))) h = refl
context_mask-has (suc (suc (suc (suc j)))) h = absurd (omega arith)

-- and no others
pub context_mask-bits : (i : ℕ) → i ≢ 52 → i ≢ 54 → i ≢ 56 → i ≢ 58 → bit_at 382805968326492160 i ≡ 0
context_mask-bits i p q r s =
    let parts : 382805968326492160 ≡ bit_or (2 ^ 52) (bit_or (2 ^ 54) (bit_or (2 ^ 56) (2 ^ 58))) = refl in
    ap (λ c. bit_at c i) parts ∙ bit_at_or (2 ^ 52) (bit_or (2 ^ 54) (bit_or (2 ^ 56) (2 ^ 58))) i
    ∙ ap₂ max (bit_at-pow_other 52 i p) (bit_at_or (2 ^ 54) (bit_or (2 ^ 56) (2 ^ 58)) i
    ∙ ap₂ max (bit_at-pow_other 54 i q) (bit_at_or (2 ^ 56) (2 ^ 58) i
    ∙ ap₂ max (bit_at-pow_other 56 i r) (bit_at-pow_other 58 i s)))

pub at_contexts : (x : ℕ) → bit_and x 382805968326492160 ≡ 0 → (j : ℕ) → j < 4 → has x (52 + 2 * j) ≡ false
at_contexts x e j h =
    let none : (has x (52 + 2 * j) && has 382805968326492160 (52 + 2 * j)) ≡ false =
    sym (has_and x 382805968326492160 (52 + 2 * j)) ∙ ap (λ n. has n (52 + 2 * j)) e ∙ has_none (52 + 2 * j) in
    let alone : (has x (52 + 2 * j) && true) ≡ false = rw (context_mask-has j h) at none in
    by_test (has x (52 + 2 * j)) alone
  where
    by_test : (b : Bool) → (b && true) ≡ false → b ≡ false
    by_test true e = cc
    by_test false e = refl

pub no_contexts : (x : ℕ) → ((j : ℕ) → j < 4 → has x (52 + 2 * j) ≡ false) → bit_and x 382805968326492160 ≡ 0
no_contexts x h = same_from_bits (bit_and x 382805968326492160) 0 (λ i. bit_at_and x 382805968326492160 i ∙ places i ∙ sym (bit_at-zero i))
  where
    clear : (i : ℕ) → has x i ≡ false → min (bit_at x i) (bit_at 382805968326492160 i) ≡ 0
    clear i e = none (bit_at x i) (bit_at 382805968326492160 i) (sym (has_bit x i) ∙ e)
      where
        none : (c d : ℕ) → flag_at c ≡ false → min c d ≡ 0
        none c d e = grind (arith, common_steps)

    outside : (i : ℕ) → bit_at 382805968326492160 i ≡ 0 → min (bit_at x i) (bit_at 382805968326492160 i) ≡ 0
    outside i e = least (bit_at x i) (bit_at 382805968326492160 i) e
      where
        least : (c d : ℕ) → d ≡ 0 → min c d ≡ 0
        least c d e = grind (arith, common_steps)

    fourth : (i : ℕ) → i ≢ 52 → i ≢ 54 → i ≢ 56 → (b : Bool) → (i == 58) ≡ b → min (bit_at x i) (bit_at 382805968326492160 i) ≡ 0
    fourth i p q r true e = let same : i ≡ 58 = grind (arith, common_steps) in clear i (ap (has x) same ∙ h 3 (omega arith))
    fourth i p q r false e = outside i (context_mask-bits i p q r (grind (arith, common_steps)))

    third : (i : ℕ) → i ≢ 52 → i ≢ 54 → (b : Bool) → (i == 56) ≡ b → min (bit_at x i) (bit_at 382805968326492160 i) ≡ 0
    third i p q true e = let same : i ≡ 56 = grind (arith, common_steps) in clear i (ap (has x) same ∙ h 2 (omega arith))
    third i p q false e = fourth i p q (grind (arith, common_steps)) (i == 58) refl

    second : (i : ℕ) → i ≢ 52 → (b : Bool) → (i == 54) ≡ b → min (bit_at x i) (bit_at 382805968326492160 i) ≡ 0
    second i p true e = let same : i ≡ 54 = grind (arith, common_steps) in clear i (ap (has x) same ∙ h 1 (omega arith))
    second i p false e = third i p (grind (arith, common_steps)) (i == 56) refl

    first : (i : ℕ) → (b : Bool) → (i == 52) ≡ b → min (bit_at x i) (bit_at 382805968326492160 i) ≡ 0
    first i true e = let same : i ≡ 52 = grind (arith, common_steps) in clear i (ap (has x) same ∙ h 0 (omega arith))
    first i false e = second i (grind (arith, common_steps)) (i == 54) refl

    places : (i : ℕ) → min (bit_at x i) (bit_at 382805968326492160 i) ≡ 0
    places i = first i (i == 52) refl

-- a bit that a flag sets
pub has_flag : (b : Bool) (k p : ℕ) → k < 64 → has (flag_code b * 2 ^ k % 2 ^ 64) p ≡ (p == k && b)
has_flag true k p h = has_one k p h ∙ and_true (p == k)
  where
    and_true : (b : Bool) → b ≡ (b && true)
    and_true true = refl
    and_true false = refl
has_flag false k p h = has_zero (2 ^ k) ∙ and_false (p == k)
  where
    has_zero : (n : ℕ) → has (0 * n % 2 ^ 64) p ≡ false
    has_zero n = ap (λ m. has (m % 2 ^ 64) p) (none n) ∙ has_none p
      where
        none : (n : ℕ) → 0 * n ≡ 0
        none n = omega arith

    and_false : (b : Bool) → false ≡ (b && false)
    and_false true = refl
    and_false false = refl

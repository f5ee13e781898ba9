-- Words that agree in the bits of a mask, and in those of one field more.
use Rattle.std.proofs.Common.{◌≡◌, ◌⊎◌, inl, inr, ℕ, ◌+◌, ◌-◌, ◌^◌, ◌<◌, ◌≤◌, ◌==◌, nat_lt, Bool, true, false, ◌&&◌, ◌||◌, refl, sym, ap, ap₂, ◌∙◌, arith, bit_and}
use Rattle.std.specs.Int.RustNames.{bit_or, bit_xor}
use Rattle.std.specs.Int.{bit_at}
use Rattle.std.specs.Int.Bits.{or_zero_l}
use Rattle.std.proofs.lemmas.Grind.{common_steps}
use Rattle.std.proofs.lemmas.Nat.Bits.{bit_at-lt, same_from_bits, bit_at_ones}
use Rattle.configuration.specs.Fields.{field_of, IsPut}
use Rattle.configuration.specs.Codes.{flag_at}
use Rattle.configuration.specs.Bits.{has}
use Rattle.configuration.specs.Regions.{agrees}
use Rattle.configuration.proofs.BitLemmas.{has_bit, has_and, has_or, has_none, has_field, has_xor, xor_none}
use Rattle.configuration.proofs.PutLemmas.{AreApart, kept}
use Rattle.mg_model.proofs.Cases.{and_first, and_second, same_test}

pub and_true : (b : Bool) → (b && true) ≡ b
and_true true = refl
and_true false = refl

pub and_false : (b : Bool) → (b && false) ≡ false
and_false true = refl
and_false false = refl

-- numbers with the same bits are one
pub same_bits : (a b : ℕ) → ((p : ℕ) → has a p ≡ has b p) → a ≡ b
same_bits a b h =
    same_from_bits a b (λ p. one (bit_at a p) (bit_at b p) (bit_at-lt a p) (bit_at-lt b p) (sym (has_bit a p) ∙ h p ∙ has_bit b p))
  where
    one : (c d : ℕ) → c < 2 → d < 2 → flag_at c ≡ flag_at d → c ≡ d
    one c d h k e = grind (arith, common_steps)

-- ---- words joined are none exactly where each is

or_left : (a b : Bool) → (a || b) ≡ false → a ≡ false
or_left true b h = h
or_left false b h = refl

or_right : (a b : Bool) → (a || b) ≡ false → b ≡ false
or_right true b h = absurd (cc)
or_right false b h = h

pub or_zero : (a b : ℕ) → (bit_or a b == 0) ≡ (a == 0 && b == 0)
or_zero a b = same_test _ _ apart together
  where
    clear : bit_or a b ≡ 0 → (p : ℕ) → (has a p || has b p) ≡ false
    clear e p = sym (has_or a b p) ∙ ap (λ n. has n p) e ∙ has_none p

    apart : (bit_or a b == 0) ≡ true → (a == 0 && b == 0) ≡ true
    apart h =
        let e : bit_or a b ≡ 0 = grind (arith, common_steps) in
        let first : a ≡ 0 = same_bits a 0 (λ p. or_left (has a p) (has b p) (clear e p) ∙ sym (has_none p)) in
        let second : b ≡ 0 = same_bits b 0 (λ p. or_right (has a p) (has b p) (clear e p) ∙ sym (has_none p)) in
        grind (arith, common_steps)

    together : (a == 0 && b == 0) ≡ true → (bit_or a b == 0) ≡ true
    together h =
        let first : a ≡ 0 = grind (arith, common_steps) in
        let second : b ≡ 0 = grind (arith, common_steps) in
        ap (λ n. n == 0) (ap₂ bit_or first second ∙ or_zero_l 0)

pub or_zeros : (a b c : ℕ) → (bit_or a (bit_or b c) == 0) ≡ (a == 0 && (b == 0 && c == 0))
or_zeros a b c = or_zero a (bit_or b c) ∙ ap (λ d. a == 0 && d) (or_zero b c)

-- ---- agreement by bits

pub agreed : (x b m p : ℕ) → agrees x b m ≡ true → has m p ≡ true → has x p ≡ has b p
unfolding agrees
agreed x b m p e h =
    let none : bit_and (bit_xor x b) m ≡ 0 = grind (arith, common_steps) in
    has_xor x b p (alone (has (bit_xor x b) p) (has m p) h (sym (has_and (bit_xor x b) m p) ∙ ap (λ n. has n p) none ∙ has_none p))
  where
    alone : (c d : Bool) → d ≡ true → (c && d) ≡ false → c ≡ false
    alone true d p q = sym p ∙ q
    alone false d p q = refl

pub agree : (x b m : ℕ) → ((p : ℕ) → has m p ≡ true → has x p ≡ has b p) → agrees x b m ≡ true
unfolding agrees
agree x b m h = ap (λ n. n == 0) (same_bits (bit_and (bit_xor x b) m) 0 none)
  where
    by_mask : (p : ℕ) (d : Bool) → has m p ≡ d → (has (bit_xor x b) p && d) ≡ false
    by_mask p true e = ap (λ c. c && true) (xor_none x b p (h p e))
    by_mask p false e = and_false (has (bit_xor x b) p)

    none : (p : ℕ) → has (bit_and (bit_xor x b) m) p ≡ has 0 p
    none p = has_and (bit_xor x b) m p ∙ by_mask p (has m p) refl ∙ sym (has_none p)

pub agrees_by : (x b m : ℕ) → bit_and (bit_xor x b) m ≡ 0 → agrees x b m ≡ true
unfolding agrees
agrees_by x b m none = ap (λ n. n == 0) none

pub everything : (x : ℕ) → agrees x 0 0 ≡ true
everything x = agree x 0 0 (λ p h. let bad : true ≡ false = sym h ∙ has_none p in absurd (cc))

-- ---- one field more

-- a bit stands in the field
abbrev IsInside : ℕ → ℕ → ℕ → Type 0
IsInside p at bits = (q : ℕ) × (q < bits) × (p ≡ at + q)

-- or apart from it
place : (p at bits : ℕ) → AreApart p 1 at bits ⊎ IsInside p at bits
place p at bits = by_test (nat_lt p at) refl (nat_lt p (at + bits)) refl
  where
    by_test : (b : Bool) → nat_lt p at ≡ b → (d : Bool) → nat_lt p (at + bits) ≡ d → AreApart p 1 at bits ⊎ IsInside p at bits
    by_test true e d f = let below : p < at = grind (arith, common_steps) in inl (λ a b. omega arith)
    by_test false e false f = let above : at + bits ≤ p = grind (arith, common_steps) in inl (λ a b. omega arith)
    by_test false e true f =
        let from : at ≤ p = grind (arith, common_steps) in
        let to : p < at + bits = grind (arith, common_steps) in
        inr (p - at, omega (arith, from, to), omega (arith, from))

outside : {new old at bits value : ℕ} → IsPut new old at bits value → (p : ℕ) → AreApart p 1 at bits → has new p ≡ has old p
unfolding has
outside put p apart = ap flag_at (kept put p 1 apart)

inside : (v at bits q : ℕ) → q < bits → has v (at + q) ≡ has (field_of v at bits) q
inside v at bits q h =
    let small : nat_lt q bits ≡ true = grind (arith, common_steps) in
    sym (has_field v at bits q ∙ ap (λ b. b && has v (at + q)) small)

same_field : (x y at bits : ℕ) → ((q : ℕ) → q < bits → has x (at + q) ≡ has y (at + q)) → field_of x at bits ≡ field_of y at bits
same_field x y at bits h = same_bits _ _ (λ q. has_field x at bits q ∙ by_test q (nat_lt q bits) refl ∙ sym (has_field y at bits q))
  where
    by_test : (q : ℕ) (b : Bool) → nat_lt q bits ≡ b → (b && has x (at + q)) ≡ (b && has y (at + q))
    by_test q true e = h q (grind (arith, common_steps))
    by_test q false e = refl

has_ones : (bits q : ℕ) → q < bits → has (2 ^ bits - 1) q ≡ true
has_ones bits q h = has_bit (2 ^ bits - 1) q ∙ ap flag_at (bit_at_ones bits q h)

-- words that agree in the bits of a mask have the same in a field that the mask has whole
pub same_whole : (x b m at bits : ℕ) → agrees x b m ≡ true → field_of m at bits ≡ 2 ^ bits - 1 → field_of x at bits ≡ field_of b at bits
same_whole x b m at bits e whole =
    same_field x b at bits (λ q h. agreed x b m (at + q) e (inside m at bits q h ∙ ap (λ v. has v q) whole ∙ has_ones bits q h))

module _ (x b m b' m' at bits n : ℕ) (base : IsPut b' b at bits n) (mask : IsPut m' m at bits (2 ^ bits - 1))
    (free : field_of m at bits ≡ 0) where
  masked : (q : ℕ) → q < bits → has m' (at + q) ≡ true
  masked q h = inside m' at bits q h ∙ ap (λ v. has v q) mask.here ∙ has_ones bits q h

  unmasked : (q : ℕ) → q < bits → has m (at + q) ≡ false
  unmasked q h = inside m at bits q h ∙ ap (λ v. has v q) free ∙ has_none q

  wider : agrees x b' m' ≡ true → agrees x b m ≡ true
  wider e = agree x b m (λ p h. by_place p h (place p at bits))
    where
      by_place : (p : ℕ) → has m p ≡ true → AreApart p 1 at bits ⊎ IsInside p at bits → has x p ≡ has b p
      by_place p h (inl apart) = agreed x b' m' p e (outside mask p apart ∙ h) ∙ outside base p apart
      by_place p h (inr (q, l, is)) =
          let bad : true ≡ false = sym h ∙ ap (has m) is ∙ unmasked q l in absurd (cc)

  number : agrees x b' m' ≡ true → field_of x at bits ≡ n
  number e = same_field x b' at bits (λ q l. agreed x b' m' (at + q) e (masked q l)) ∙ base.here

  narrower : agrees x b m ≡ true → field_of x at bits ≡ n → agrees x b' m' ≡ true
  narrower e f = agree x b' m' (λ p h. by_place p h (place p at bits))
    where
      by_place : (p : ℕ) → has m' p ≡ true → AreApart p 1 at bits ⊎ IsInside p at bits → has x p ≡ has b' p
      by_place p h (inl apart) = agreed x b m p e (sym (outside mask p apart) ∙ h) ∙ sym (outside base p apart)
      by_place p h (inr (q, l, is)) =
          ap (has x) is ∙ inside x at bits q l ∙ ap (λ v. has v q) (f ∙ sym base.here) ∙ sym (inside b' at bits q l)
          ∙ ap (has b') (sym is)

  pub narrowed_word : agrees x b' m' ≡ (agrees x b m && field_of x at bits == n)
  narrowed_word = same_test _ _ to from
    where
      to : agrees x b' m' ≡ true → (agrees x b m && field_of x at bits == n) ≡ true
      to e =
          let same : field_of x at bits ≡ n = number e in
          let test : (field_of x at bits == n) ≡ true = grind (arith, common_steps) in
          ap₂ (λ c d. c && d) (wider e) test

      from : (agrees x b m && field_of x at bits == n) ≡ true → agrees x b' m' ≡ true
      from h =
          let test : (field_of x at bits == n) ≡ true = and_second (agrees x b m) (field_of x at bits == n) h in
          narrower (and_first (agrees x b m) (field_of x at bits == n) h) (grind (arith, common_steps))

-- Numbers in decimal digits without leading zeros, and what `parse` makes of them.
use Rattle.std.proofs.Common.{◌≡◌, ◌∙◌, ℕ, suc, ◌<◌, ◌≤◌, ◌^◌, inl, inr, Bool, true, false, List, [], ◌∷◌, length, Option, Some, None, true≢false, refl, sym, subst, ap, arith}
use Rattle.std.specs.Prelude.{nat_le, ◌&&◌, ◌||◌, not, ◌==◌, slice_index}
use Rattle.std.specs.List.{list_all}
use Rattle.std.specs.Str.Parse.{AllDigits, IsNumeral, digits_value, without_leading_plus}
use Rattle.std.proofs.lemmas.Bool.{leb-true, and_parts}
use Rattle.std.proofs.lemmas.Bool.Decides.{leb_tells}
use Rattle.std.proofs.lemmas.Str.{digit_value_digit}
use Rattle.std.proofs.lemmas.Str.Parse.{without_leading_plus_none}
use Rattle.typed_values.specs.Shape.{only_if}
use Rattle.plans.specs.Texts.{is_digit, is_numeral, number_in}

digit_range : (c : ℕ) → is_digit c ≡ true → (48 ≤ c) × (c ≤ 57)
digit_range c is = let r = and_parts (nat_le 48 c) (nat_le c 57) is in (leb-true 48 c r.0, leb-true c 57 r.1)

all_digits : (text : List ℕ) → list_all (λ byte. is_digit byte) text ≡ true → AllDigits 10 text
all_digits [] is = tt
all_digits (c ∷ cs) is =
    let parts = and_parts (is_digit c) (list_all (λ byte. is_digit byte) cs) is in
    let range = digit_range c parts.0 in
    let low : 48 ≤ c = range.0 in
    let high : c ≤ 57 = range.1 in
    let value = digit_value_digit c range in (omega (arith, low, high, value), all_digits cs parts.1)

-- what is written in digits without leading zeros has no plus before it, and is a numeral for `parse`
of_numeral : (text : List ℕ) → is_numeral text ≡ true → IsNumeral 10 text × (without_leading_plus text ≡ text)
unfolding is_numeral
of_numeral [] is = absurd (true≢false (sym is))
of_numeral (c ∷ cs) is =
    let form = (and_parts (nat_le 1 (length (c ∷ cs)))
    (list_all (λ byte. is_digit byte) (c ∷ cs) && (length (c ∷ cs) == 1 || not (slice_index (c ∷ cs) 0 == 48))) is).1 in
    let digits = (and_parts (list_all (λ byte. is_digit byte) (c ∷ cs)) (length (c ∷ cs) == 1 || not (slice_index (c ∷ cs) 0 == 48)) form).0 in
    let first : 48 ≤ c = (digit_range c (and_parts (is_digit c) (list_all (λ byte. is_digit byte) cs) digits).0).0 in (
      (omega arith, all_digits (c ∷ cs) digits),
      without_leading_plus_none (c ∷ cs) (λ plus. let same : c ≡ 43 = plus in omega (arith, first, same)),
    )

-- ---- what a text is, by the number that it writes

pub no_numeral : (least most : ℕ) (text : List ℕ) → is_numeral text ≡ false → None ≡ number_in least most text
unfolding number_in
no_numeral least most text is = rw is refl

within : (least most v : ℕ) → Option ℕ
within least most v = only_if (nat_le least v && nat_le v most) (Some v)

by_value : (least most : ℕ) (text : List ℕ) → is_numeral text ≡ true → number_in least most text ≡ within least most (digits_value 10 text)
unfolding number_in within
by_value least most text is = rw is refl

too_small : (least most v : ℕ) → v < least → None ≡ within least most v
unfolding within
too_small least most v below = elim (leb_tells least v) [
  | inl (is, above) ↦ absurd (omega (arith, below, above))
  | inr (is, above) ↦ rw is refl
]

too_big : (least most v : ℕ) → most < v → None ≡ within least most v
unfolding within
too_big least most v above = elim (leb_tells v most) [
  | inl (is, below) ↦ absurd (omega (arith, below, above))
  | inr (is, below) ↦ neither (nat_le least v) is
]
  where
    neither : (low : Bool) → nat_le v most ≡ false → None ≡ only_if (low && nat_le v most) (Some v)
    neither true is = rw is refl
    neither false is = refl

within_bounds : (least most v : ℕ) → least ≤ v → v ≤ most → Some v ≡ within least most v
unfolding within
within_bounds least most v low high = elim (leb_tells least v) [
  | inl (is, above) ↦ elim (leb_tells v most) [
    | inl (also, below) ↦ rw (is, also) refl
    | inr (also, below) ↦ absurd (omega (arith, below, high))
  ]
  | inr (is, above) ↦ absurd (omega (arith, above, low))
]

module _ (least most : ℕ) (text : List ℕ) (is : is_numeral text ≡ true) where
  -- `parse` reads no number of 32 bits in it
  pub not_parsed : most < 2 ^ 32 → (IsNumeral 10 (without_leading_plus text) × (digits_value 10 (without_leading_plus text) < 2 ^ 32) → ⊥)
      → None ≡ number_in least most text
  not_parsed fits not_read =
      let numeral = of_numeral text is in
      let large : (digits_value 10 text < 2 ^ 32) → ⊥ =
      λ small. not_read (subst (λ (t : List ℕ). IsNumeral 10 t × (digits_value 10 t < 2 ^ 32)) (sym numeral.1) (numeral.0, small)) in
      too_big least most (digits_value 10 text) (above (digits_value 10 text) large) ∙ sym (by_value least most text is)
    where
      above : (v : ℕ) → (v < 2 ^ 32 → ⊥) → most < v
      above v large = elim (leb_tells (suc v) (2 ^ 32)) [
        | inl (test, small) ↦ absurd (large small)
        | inr (test, high) ↦ let high : 2 ^ 32 < suc v = high in omega (arith, high, fits)
      ]

  value : (v : ℕ) → v ≡ digits_value 10 (without_leading_plus text) → v ≡ digits_value 10 text
  value v same = same ∙ ap (digits_value 10) (of_numeral text is).1

  pub parsed_below : (v : ℕ) → v ≡ digits_value 10 (without_leading_plus text) → v < least → None ≡ number_in least most text
  parsed_below v same below =
      too_small least most v below ∙ ap (within least most) (value v same) ∙ sym (by_value least most text is)

  pub parsed_above : (v : ℕ) → v ≡ digits_value 10 (without_leading_plus text) → most < v → None ≡ number_in least most text
  parsed_above v same above =
      too_big least most v above ∙ ap (within least most) (value v same) ∙ sym (by_value least most text is)

  pub parsed_within : (v : ℕ) → v ≡ digits_value 10 (without_leading_plus text) → least ≤ v → v ≤ most → Some v ≡ number_in least most text
  parsed_within v same low high =
      within_bounds least most v low high ∙ ap (within least most) (value v same) ∙ sym (by_value least most text is)

-- Which contexts something stands in, read from bits.
use Rattle.std.proofs.Common.{◌≡◌, ℕ, ◌+◌, ◌*◌, ◌<◌, ◌≤◌, ◌==◌, nat_lt, Bool, true, false, ◌||◌, ◌&&◌, refl, ap, sym, ◌∙◌, arith, bit_and}
use Rattle.std.proofs.lemmas.Grind.{common_steps}
use Rattle.std.specs.Int.RustNames.{bit_xor}
use Rattle.mg_model.specs.Configuration.{is_in, is_live, stands_in}
use Rattle.configuration.specs.Fields.{field_of}
use Rattle.configuration.specs.Codes.{line_spot_at, ephemeral_spot_at, context_at, flag_at}
use Rattle.configuration.specs.Bits.{has}
use Rattle.configuration.specs.Packed.{Words, IsPackedLines}
use Rattle.configuration.specs.Config.{configuration_of}
use Rattle.configuration.specs.Tests.{AreContextsRight}
use Rattle.configuration.proofs.BitLemmas.{has_xor, xor_none, at_contexts, no_contexts}
use Rattle.configuration.proofs.SlotLemmas.{free_past_four}
use Rattle.configuration.proofs.WellFormedLemmas.{slot_cases}
use Rattle.configuration.proofs.SumLemmas.{field_split}
use Rattle.configuration.proofs.WordLemmas.{small}

-- a line's number is the context's, and one more
pub line_in : (n j : ℕ) → is_in (line_spot_at n) j ≡ (nat_lt j 4 && n == j + 1)
line_in n j = grind (arith, common_steps)

pub ephemeral_in : (n j : ℕ) → is_in (ephemeral_spot_at n) j ≡ (nat_lt j 4 && n == j + 1)
ephemeral_in n j = grind (arith, common_steps)

-- whether something stands in the context, by the numbers of the eight
abbrev pub stands_at : Words → ℕ → Bool
stands_at w n =
    ((field_of w.lines 8 3 == n || field_of w.lines 19 3 == n) || (field_of w.lines 30 3 == n || field_of w.lines 41 3 == n))
    || ((field_of w.ephemerals 0 3 == n || field_of w.ephemerals 8 3 == n) || (field_of w.ephemerals 16 3 == n || field_of w.ephemerals 24 3 == n))

pub stands_in_numbers : (w : Words) (j : ℕ) → j < 4 → stands_in (configuration_of w).spot j ≡ stands_at w (j + 1)
unfolding configuration_of
stands_in_numbers w j h =
    let inside : nat_lt j 4 ≡ true = grind (arith, common_steps) in
    rw (
      line_in (field_of w.lines 8 3) j,
      line_in (field_of w.lines 19 3) j,
      line_in (field_of w.lines 30 3) j,
      line_in (field_of w.lines 41 3) j,
      ephemeral_in (field_of w.ephemerals 0 3) j,
      ephemeral_in (field_of w.ephemerals 8 3) j,
      ephemeral_in (field_of w.ephemerals 16 3) j,
      ephemeral_in (field_of w.ephemerals 24 3) j,
      inside,
    )
    (in_order (field_of w.lines 8 3 == j + 1) (field_of w.lines 19 3 == j + 1) (field_of w.lines 30 3 == j + 1) (field_of w.lines 41 3 == j + 1)
    (field_of w.ephemerals 0 3 == j + 1) (field_of w.ephemerals 8 3 == j + 1) (field_of w.ephemerals 16 3 == j + 1) (field_of w.ephemerals 24 3 == j + 1))
  where
    in_order : (a b c d e f g k : Bool) →
        (a || (b || (c || (d || (e || (f || (g || (k || false)))))))) ≡ (((a || b) || (c || d)) || ((e || f) || (g || k)))
    in_order true b c d e f g k = refl
    in_order false true c d e f g k = refl
    in_order false false true d e f g k = refl
    in_order false false false true e f g k = refl
    in_order false false false false true f g k = refl
    in_order false false false false false true g k = refl
    in_order false false false false false false true k = refl
    in_order false false false false false false false true = refl
    in_order false false false false false false false false = refl

-- nothing stands past the fourth context
pub stands_past : (w : Words) (j : ℕ) → 4 ≤ j → stands_in (configuration_of w).spot j ≡ false
unfolding configuration_of
stands_past w j h =
    let past : nat_lt j 4 ≡ false = grind (arith, common_steps) in
    rw (
      line_in (field_of w.lines 8 3) j,
      line_in (field_of w.lines 19 3) j,
      line_in (field_of w.lines 30 3) j,
      line_in (field_of w.lines 41 3) j,
      ephemeral_in (field_of w.ephemerals 0 3) j,
      ephemeral_in (field_of w.ephemerals 8 3) j,
      ephemeral_in (field_of w.ephemerals 16 3) j,
      ephemeral_in (field_of w.ephemerals 24 3) j,
      past,
    )
    refl

-- a context is live where its low bit is set
pub live_bit : (w : Words) (j : ℕ) → j < 4 → IsPackedLines w.lines → is_live ((configuration_of w).context j) ≡ has w.lines (52 + 2 * j)
unfolding configuration_of has
live_bit w j h p =
    let inside : nat_lt j 4 ≡ true = grind (arith, common_steps) in
    rw inside (low_bit (field_of w.lines (52 + 2 * j) 2) (field_of w.lines (52 + 2 * j + 1) 1) (field_of w.lines (52 + 2 * j) 1)
    (p.contexts j h) (small w.lines (52 + 2 * j) 1) (field_split w.lines (52 + 2 * j) 1 1))
  where
    low_bit : (n a b : ℕ) → n ≤ 2 → b < 2 → n ≡ a * 2 + b → is_live (context_at n) ≡ flag_at b
    low_bit n a b h k e = grind (arith, common_steps)

-- nothing is live past the fourth context
pub contexts_past : (w : Words) (j : ℕ) → 4 ≤ j → is_live ((configuration_of w).context j) ≡ stands_in (configuration_of w).spot j
contexts_past w j h = ap is_live (free_past_four w j h) ∙ sym (stands_past w j h)

-- the words of what is live and of what is stood in agree under the contexts' mask exactly where the contexts are right
pub contexts_right : (w : Words) (s : ℕ) → IsPackedLines w.lines →
    ((j : ℕ) → j < 4 → has s (52 + 2 * j) ≡ stands_in (configuration_of w).spot j) →
    bit_and (bit_xor w.lines s) 382805968326492160 ≡ 0 → AreContextsRight (configuration_of w)
contexts_right w s p stood e j = slot_cases j
    (λ l. live_bit w j l p ∙ has_xor w.lines s (52 + 2 * j) (at_contexts (bit_xor w.lines s) e j l) ∙ stood j l)
    (λ l. contexts_past w j l)

pub contexts_masked : (w : Words) (s : ℕ) → IsPackedLines w.lines →
    ((j : ℕ) → j < 4 → has s (52 + 2 * j) ≡ stands_in (configuration_of w).spot j) →
    AreContextsRight (configuration_of w) → bit_and (bit_xor w.lines s) 382805968326492160 ≡ 0
contexts_masked w s p stood right =
    no_contexts (bit_xor w.lines s) (λ j l. xor_none w.lines s (52 + 2 * j) (sym (live_bit w j l p) ∙ right j ∙ sym (stood j l)))

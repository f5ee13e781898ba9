-- The numbers of the components that are shown are the fields that they were read from.
use Rattle.std.proofs.Common.{◌≡◌, ℕ, ◌+◌, ◌*◌, ◌%◌, ◌^◌, ◌<◌, ◌≤◌, ◌==◌, nat_lt, true, sym, ◌∙◌, arith}
use Rattle.std.specs.Prelude.{if◌then◌else◌}
use Rattle.std.proofs.lemmas.Grind.{common_steps}
use Rattle.std.proofs.lemmas.Nat.{mod_below, pow_pos}
use Rattle.configuration.specs.Fields.{field_of}
use Rattle.configuration.specs.Codes.{link_code, link_at, mode_code, mode_at, context_code, context_at, flag_code, flag_at, events_code, events_at, line_spot_at, ephemeral_spot_code, ephemeral_spot_at, remote_code, remote_at}
use Rattle.configuration.specs.Packed.{Words, IsPackedLines, IsPackedEphemerals}
use Rattle.configuration.specs.Config.{configuration_of}
use Rattle.configuration.specs.Words.{line_spot_number, line_number, ephemeral_number, first_word, second_word}
use Rattle.configuration.proofs.SumLemmas.{all_bits, field_split, line_sum, ephemeral_sum, first_sum, second_sum}

pub small : (v at bits : ℕ) → field_of v at bits < 2 ^ bits
unfolding field_of
small v at bits = mod_below _ (2 ^ bits) (pow_pos bits)

pub link_back : (n : ℕ) → n < 4 → link_code (link_at n) ≡ n
link_back n h = grind (arith, common_steps)

pub mode_back : (n : ℕ) → n < 4 → mode_code (mode_at n) ≡ n
mode_back n h = grind (arith, common_steps)

pub context_back : (n : ℕ) → n ≤ 2 → context_code (context_at n) ≡ n
context_back n h = grind (arith, common_steps)

pub flag_back : (n : ℕ) → n < 2 → flag_code (flag_at n) ≡ n
flag_back n h = grind (arith, common_steps)

pub events_back : (n : ℕ) → n ≤ 17 → events_code (events_at n) ≡ n
events_back n h = grind (arith, common_steps)

pub ephemeral_spot_back : (n : ℕ) → n ≤ 5 → ephemeral_spot_code (ephemeral_spot_at n) ≡ n
ephemeral_spot_back n h = grind (arith, common_steps)

pub remote_back : (n : ℕ) → n ≤ 5 → remote_code (remote_at n) ≡ n
remote_back n h = grind (arith, common_steps)

-- the number of where a line stands, whose absence counts nothing
pub line_spot_back : (n : ℕ) → n ≤ 5 → line_spot_number (line_spot_at n) + (if n == 5 then 5 else 0) ≡ n
line_spot_back n h = grind (arith, common_steps)

-- a sum of parts, one of which is less by what its absence holds
parts_of_four : (a m e f x n g h z : ℕ) → a + z ≡ x → m ≡ n → e ≡ g → f ≡ h →
    a + m * 2 ^ 3 + e * 2 ^ 5 + f * 2 ^ 10 + z ≡ x + n * 2 ^ 3 + g * 2 ^ 5 + h * 2 ^ 10
parts_of_four a m e f x n g h z p q r s = omega arith

abbrev pub absence : ℕ → ℕ → ℕ
absence word i = if field_of word (8 + 11 * i) 3 == 5 then 5 else 0

-- a line's number, with what its absence holds
pub line_back : (w : Words) (i : ℕ) → i < 4 → IsPackedLines w.lines →
    line_number (configuration_of w) i + absence w.lines i ≡ field_of w.lines (8 + 11 * i) 11
unfolding configuration_of
line_back w i h p =
    let inside : nat_lt i 4 ≡ true = grind (arith, common_steps) in
    rw inside (parts_of_four _ _ _ _ _ _ _ _ (absence w.lines i) (line_spot_back (field_of w.lines (8 + 11 * i) 3) (p.spots i h))
    (mode_back (field_of w.lines (8 + 11 * i + 3) 2) (small w.lines (8 + 11 * i + 3) 2))
    (events_back (field_of w.lines (8 + 11 * i + 5) 5) (p.events i h))
    (flag_back (field_of w.lines (8 + 11 * i + 10) 1) (small w.lines (8 + 11 * i + 10) 1))
    ∙ sym (line_sum w.lines (8 + 11 * i)))

parts_of_three : (a m e x n g : ℕ) → a ≡ x → m ≡ n → e ≡ g → a + m * 2 ^ 3 + e * 2 ^ 5 ≡ x + n * 2 ^ 3 + g * 2 ^ 5
parts_of_three a m e x n g p q r = omega arith

-- an ephemeral's number
pub ephemeral_back : (w : Words) (k : ℕ) → k < 4 → IsPackedEphemerals w.ephemerals →
    ephemeral_number (configuration_of w) k ≡ field_of w.ephemerals (8 * k) 8
unfolding configuration_of
ephemeral_back w k h p =
    let inside : nat_lt k 4 ≡ true = grind (arith, common_steps) in
    rw inside (parts_of_three _ _ _ _ _ _ (ephemeral_spot_back (field_of w.ephemerals (8 * k) 3) (p.spots k h))
    (mode_back (field_of w.ephemerals (8 * k + 3) 2) (small w.ephemerals (8 * k + 3) 2))
    (remote_back (field_of w.ephemerals (8 * k + 5) 3) (p.remotes k h))
    ∙ sym (ephemeral_sum w.ephemerals (8 * k)))

pub state_back : (w : Words) → (configuration_of w).state % 64 ≡ field_of w.lines 0 6
unfolding configuration_of
state_back w = low_part (field_of w.lines 0 6) (field_of w.lines 60 2) (small w.lines 0 6)
  where
    low_part : (a b : ℕ) → a < 64 → (a + 64 * b) % 64 ≡ a
    low_part a b h = omega arith

pub link_number : (w : Words) → link_code (configuration_of w).link ≡ field_of w.lines 6 2
unfolding configuration_of
link_number w = link_back (field_of w.lines 6 2) (small w.lines 6 2)

pub context_number : (w : Words) (j : ℕ) → j < 4 → IsPackedLines w.lines →
    context_code ((configuration_of w).context j) ≡ field_of w.lines (52 + 2 * j) 2
unfolding configuration_of
context_number w j h p =
    let inside : nat_lt j 4 ≡ true = grind (arith, common_steps) in
    rw inside (context_back (field_of w.lines (52 + 2 * j) 2) (p.contexts j h))

abbrev pub absences : ℕ → ℕ
absences word = absence word 0 * 2 ^ 8 + absence word 1 * 2 ^ 19 + absence word 2 * 2 ^ 30 + absence word 3 * 2 ^ 41

-- the sum of the first word over plain numbers
first_parts : (state link a b c d r s t u state' link' a' b' c' d' r' s' t' u' x y z v : ℕ) → state ≡ state' → link ≡ link' →
    a + x ≡ a' → b + y ≡ b' → c + z ≡ c' → d + v ≡ d' → r ≡ r' → s ≡ s' → t ≡ t' → u ≡ u' →
    state + link * 2 ^ 6 + a * 2 ^ 8 + b * 2 ^ 19 + c * 2 ^ 30 + d * 2 ^ 41 + r * 2 ^ 52 + s * 2 ^ 54 + t * 2 ^ 56 + u * 2 ^ 58
    + (x * 2 ^ 8 + y * 2 ^ 19 + z * 2 ^ 30 + v * 2 ^ 41)
    ≡ state' + link' * 2 ^ 6 + a' * 2 ^ 8 + b' * 2 ^ 19 + c' * 2 ^ 30 + d' * 2 ^ 41 + r' * 2 ^ 52 + s' * 2 ^ 54 + t' * 2 ^ 56 + u' * 2 ^ 58
first_parts state link a b c d r s t u state' link' a' b' c' d' r' s' t' u' x y z v e₀ e₁ e₂ e₃ e₄ e₅ e₆ e₇ e₈ e₉ = omega arith

-- the first word, with what absent lines hold
pub first_back : (w : Words) → IsPackedLines w.lines → first_word (configuration_of w) + absences w.lines ≡ field_of w.lines 0 60
first_back w p =
    first_parts _ _ _ _ _ _ _ _ _ _ _ _ _ _ _ _ _ _ _ _ (absence w.lines 0) (absence w.lines 1) (absence w.lines 2) (absence w.lines 3)
    (state_back w) (link_number w)
    (line_back w 0 (omega arith) p) (line_back w 1 (omega arith) p) (line_back w 2 (omega arith) p) (line_back w 3 (omega arith) p)
    (context_number w 0 (omega arith) p) (context_number w 1 (omega arith) p) (context_number w 2 (omega arith) p) (context_number w 3 (omega arith) p)
    ∙ sym (first_sum w.lines)

pub second_back : (w : Words) → IsPackedEphemerals w.ephemerals → second_word (configuration_of w) ≡ field_of w.ephemerals 0 32
second_back w p =
    let e0 = ephemeral_back w 0 (omega arith) p in let e1 = ephemeral_back w 1 (omega arith) p in
    let e2 = ephemeral_back w 2 (omega arith) p in let e3 = ephemeral_back w 3 (omega arith) p in
    rw (e0, e1, e2, e3) (sym (second_sum w.ephemerals))

-- nothing is above the ephemerals
pub second_whole : (v : ℕ) → v < 2 ^ 64 → IsPackedEphemerals v → field_of v 0 32 ≡ v
second_whole v h p =
    let whole : field_of v 0 64 ≡ v = all_bits v h in
    let parts : field_of v 0 64 ≡ field_of v 32 32 * 2 ^ 32 + field_of v 0 32 = field_split v 0 32 32 in
    let none : field_of v 32 32 ≡ 0 = p.beside in
    omega arith

-- Sets of values as bits of a word, and the values that the numbers in fields stand for.
use Rattle.std.proofs.Common.{◌≡◌, ℕ, ◌+◌, ◌*◌, ◌/◌, ◌%◌, ◌^◌, ◌<◌, ◌≤◌, nat_lt, ◌↔◌, List, Contains, true, refl, sym, ap, ◌∙◌, subst, arith}
use Rattle.std.specs.Prelude.{if◌then◌else◌}
use Rattle.std.proofs.lemmas.Grind.{common_steps}
use Rattle.std.proofs.lemmas.Nat.{mod_below, pow_pos, shr_split}
use Rattle.configuration.specs.Fields.{field_of}
use Rattle.configuration.specs.Codes.{line_spot_code, line_spot_at}
use Rattle.configuration.specs.Bits.{has}
use Rattle.configuration.specs.Packed.{Words}
use Rattle.configuration.specs.Regions.{ValueSet, word_at, is_in}
use Rattle.configuration.proofs.FieldLemmas.{power_le}
use Rattle.configuration.proofs.WordLemmas.{small}

-- nothing is above
pub below_power : (n k : ℕ) → n / 2 ^ k ≡ 0 → n < 2 ^ k
below_power n k none =
    let whole : n ≡ 0 * 2 ^ k + n % 2 ^ k = sym (shr_split n k) ∙ ap (λ h. h * 2 ^ k + n % 2 ^ k) none in
    omega (arith, whole, mod_below n (2 ^ k) (pow_pos k))

-- the number of where a line stands
pub line_spot_same : (n : ℕ) → n ≤ 5 → line_spot_code (line_spot_at n) ≡ n
line_spot_same n h = grind (arith, common_steps)

-- the number in the field has the bit of a value of the list exactly where the value that it stands for is one of them
pub told : {X : Type 0} (code : X → ℕ) (value_at : ℕ → X) (values : List X) (allowed : ℕ) →
    ((n : ℕ) → n < 64 → code (value_at n) ≡ n → (has allowed n ≡ true) ↔ Contains values (value_at n)) →
    (set : ValueSet) (k at bits : ℕ) → set ≡ record { word = k; at = at; bits = bits; allowed = allowed } → bits ≤ 5 → (w : Words) →
    code (value_at (field_of (word_at w k) at bits)) ≡ field_of (word_at w k) at bits →
    (v : X) → value_at (field_of (word_at w k) at bits) ≡ v → (is_in set w ≡ true) ↔ Contains values v
unfolding is_in
told code value_at values allowed numbered set k at bits is five w back v shows =
    subst (λ (s : ValueSet). (is_in s w ≡ true) ↔ Contains values v) (sym is)
    (subst (λ x. (has allowed (field_of (word_at w k) at bits) ≡ true) ↔ Contains values x) shows
    (numbered (field_of (word_at w k) at bits) (omega (arith, small (word_at w k) at bits, power_le bits 5 five)) back))

pub within_four : {A : Type 0} (i : ℕ) (v d : A) → i < 4 → v ≡ (if nat_lt i 4 then v else d)
within_four i v d h = let inside : nat_lt i 4 ≡ true = grind (arith, common_steps) in rw inside refl

-- A field of a word: some bits from a place on, as a number.
use Rattle.std.specs.Prelude.{◌≡◌, ℕ, ◌+◌, ◌/◌, ◌%◌, ◌^◌, ◌≤◌}

unfoldable pub field_of : ℕ → ℕ → ℕ → ℕ
field_of word at bits = word / 2 ^ at % 2 ^ bits

-- a word is another with this value in these bits, and all else as it was
pub record IsPut (new old at bits value : ℕ) : Type 0 where
  pub here : field_of new at bits ≡ value
  pub below : (i n : ℕ) → i + n ≤ at → field_of new i n ≡ field_of old i n
  pub above : (i n : ℕ) → at + bits ≤ i → field_of new i n ≡ field_of old i n

-- The bytes of a digit map's text that are no symbols, and those of its digits.
use Rattle.std.specs.Prelude.{ℕ, ◌+◌, Bool, ◌||◌, ◌==◌}

-- `|`
abbrev pub bar : ℕ
bar = 124

-- `-`
abbrev pub dash : ℕ
dash = 45

-- `[` and `]`
abbrev pub opening_bracket : ℕ
opening_bracket = 91

abbrev pub closing_bracket : ℕ
closing_bracket = 93

-- `(` and `)`
abbrev pub opening_parenthesis : ℕ
opening_parenthesis = 40

abbrev pub closing_parenthesis : ℕ
closing_parenthesis = 41

-- `x` in either case
abbrev pub is_x : ℕ → Bool
is_x byte = byte == 120 || byte == 88

-- the byte of a digit, from `0` for 0 on
abbrev pub digit : ℕ → ℕ
digit number = 48 + number

-- The sections of the input. A reader should check that a divider is a line of exactly `%%`, with
-- any of the allowed ends, that a section is what stands between two dividers, byte for byte, and
-- that n dividers make n + 1 sections.
use Rattle.std.specs.Prelude.{ℕ, Bool, ◌==◌, ◌||◌, List, [], ◌∷◌, ◌++◌, Option, None, Some, if◌then◌else◌}
use Rattle.std.specs.Str.{bytes_eq}

-- a byte before the first of some lines
abbrev pub starts_with_byte : ℕ → List (List ℕ) → List (List ℕ)
starts_with_byte byte [] = (byte ∷ []) ∷ []
starts_with_byte byte (line ∷ lines) = (byte ∷ line) ∷ lines

-- the lines of a text, each with its line feed; the last may lack one
abbrev pub lines_of : List ℕ → List (List ℕ)
lines_of [] = []
lines_of (byte ∷ rest) =
    if byte == 10 then (byte ∷ []) ∷ lines_of rest else starts_with_byte byte (lines_of rest)

-- 37 is the percent sign, 13 the carriage return and 10 the line feed
abbrev pub is_divider : List ℕ → Bool
is_divider line = bytes_eq line (37 ∷ 37 ∷ 10 ∷ []) || bytes_eq line (37 ∷ 37 ∷ 13 ∷ 10 ∷ [])
    || bytes_eq line (37 ∷ 37 ∷ []) || bytes_eq line (37 ∷ 37 ∷ 13 ∷ [])

-- a text before the first of some sections
abbrev pub prepended : List ℕ → List (List ℕ) → List (List ℕ)
prepended text [] = text ∷ []
prepended text (section ∷ sections) = (text ++ section) ∷ sections

-- a divider begins a new section, and any other line stands in its section
abbrev pub grouped : List (List ℕ) → List (List ℕ)
grouped [] = [] ∷ []
grouped (line ∷ lines) =
    if is_divider line then [] ∷ grouped lines else prepended line (grouped lines)

-- the sections of an input
abbrev pub sections_of : List ℕ → List (List ℕ)
sections_of input = grouped (lines_of input)

-- the only two sections
abbrev pub pair_of : List (List ℕ) → Option (List ℕ × List ℕ)
pair_of (script ∷ certificate ∷ []) = Some (script, certificate)
pair_of _ = None

-- the only three sections
abbrev pub triple_of : List (List ℕ) → Option (List ℕ × List ℕ × List ℕ)
triple_of (script ∷ certificate ∷ plan ∷ []) = Some (script, certificate, plan)
triple_of _ = None

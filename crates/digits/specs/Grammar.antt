-- The grammar of digit maps (ITU-T H.248.1 v1 / RFC 3525, 7.1.14) in this profile: which whole texts write which alternatives.
-- Nothing here says how a text is read, in which order, or with which fault. As ABNF, where letters count in either case:
--
--   map          = alternatives / "(" alternatives ")"
--   alternatives = alternative *("|" alternative)
--   alternative  = 1*position
--   position     = symbol / "x" / "[" 1*run "]"
--   run          = symbol / digit "-" digit        ; the second digit isn't lower
--   symbol       = digit / "E" / "F"
--
-- A reader should check each definition against its rule, and what it writes: a run its symbols, a position what it accepts.
use Rattle.std.specs.Prelude.{◌≡◌, ℕ, ◌≤◌, ◌<◌, List, [], ◌∷◌, ◌++◌, length, IsTrue, Some}
use Rattle.std.specs.List.{AllZip, concat, join_with_byte}
use Rattle.digits.specs.declared.span.Span.{Span}
use Rattle.mg_model.specs.declared.positions.Position.{Position}
use Rattle.digits.specs.Marks.{bar, dash, opening_bracket, closing_bracket, opening_parenthesis, closing_parenthesis, is_x, digit}
use Rattle.digits.specs.Symbols.{symbol_of, run, position_of}

-- texts, at least one, of which each writes the thing at its place; joined, they are the whole text
pub record WritesJoined {A : Type 0} (join : List (List ℕ) → List ℕ) (Writes : List ℕ → A → Type 0) (text : List ℕ) (things : List A) : Type 0 where
  pub texts : List (List ℕ)
  pub some : 0 < length texts
  pub joined : join texts ≡ text
  pub each : AllZip Writes texts things

-- texts one after the other
abbrev pub WritesInRow : {A : Type 0} → (List ℕ → A → Type 0) → List ℕ → List A → Type 0
WritesInRow Writes text things = WritesJoined concat Writes text things

-- texts with a bar between each two
abbrev pub WritesBetweenBars : {A : Type 0} → (List ℕ → A → Type 0) → List ℕ → List A → Type 0
WritesBetweenBars Writes text things = WritesJoined (join_with_byte bar) Writes text things

-- within a range: a symbol; or a digit, a dash and a digit that isn't lower, for all digits from the one to the other
pub data WritesRun : List ℕ → Span → Type 0 where
  one_symbol : (byte symbol : ℕ) → symbol_of byte ≡ Some symbol → WritesRun (byte ∷ []) (run symbol symbol)
  from_digit_to_digit : (low high : ℕ) → low ≤ high → high ≤ 9 → WritesRun (digit low ∷ dash ∷ digit high ∷ []) (run low high)

-- a symbol, which alone is accepted; or `x`, for any digit; or a range: runs in a row between brackets, for any symbol of theirs
pub data WritesPosition : List ℕ → Position → Type 0 where
  symbol : (byte number : ℕ) → symbol_of byte ≡ Some number → WritesPosition (byte ∷ []) (position_of (run number number ∷ []))
  any_digit : (byte : ℕ) → IsTrue (is_x byte) → WritesPosition (byte ∷ []) (position_of (run 0 9 ∷ []))
  range : (inside : List ℕ) (runs : List Span) → WritesInRow WritesRun inside runs → WritesPosition (opening_bracket ∷ inside ++ closing_bracket ∷ []) (position_of runs)

-- positions in a row
abbrev pub WritesAlternative : List ℕ → List Position → Type 0
WritesAlternative text positions = WritesInRow WritesPosition text positions

-- alternatives with a bar between each two
abbrev pub WritesAlternatives : List ℕ → List (List Position) → Type 0
WritesAlternatives text alternatives = WritesBetweenBars WritesAlternative text alternatives

-- a map writes these alternatives: as they are, or within one pair of parentheses
pub data IsMap : List ℕ → List (List Position) → Type 0 where
  bare : (text : List ℕ) (alternatives : List (List Position)) → WritesAlternatives text alternatives → IsMap text alternatives
  in_parentheses : (inside : List ℕ) (alternatives : List (List Position)) → WritesAlternatives inside alternatives
      → IsMap (opening_parenthesis ∷ inside ++ closing_parenthesis ∷ []) alternatives

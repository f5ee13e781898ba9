-- How a digit map is completed by the symbols that are dialled (H.248.1 section 7.1.14; the parameter `Meth` of `dd/ce` in
-- Annex E.6). All is said of whole lists of symbols. A reader should check when a list is complete, and that a symbol
-- which leaves no alternative is taken back (this profile's own).
use Rattle.std.specs.Prelude.{ℕ, suc, ◌+◌, ◌<◌, ◌==◌, Bool, true, false, not, ◌&&◌, IsTrue, if◌then◌else◌, List, [], ◌∷◌, ◌++◌, length, take, position, slice_index_or, Option, Some, None, is_none, is_some, option_and_then}
use Rattle.mg_names.specs.declared.symbols.Symbol.{Symbol}
use Rattle.mg_names.specs.declared.symbols.Symbol.TheVariants.{Zero, One, Two, Three, Four, Five, Six, Seven, Eight, Nine, E, F}
use Rattle.mg_model.specs.declared.positions.Position.{Position}
use Rattle.mg_model.specs.declared.line_events.Method.{Method}
use Rattle.mg_model.specs.declared.line_events.Method.TheVariants.{Unambiguous, Full, Partial}
use Rattle.mg_model.specs.Script.{DigitMap}
use Rattle.mg_model.specs.Tables.{is_empty}

-- the place of a symbol among 0 to 9, E, F
abbrev pub place_of : Symbol → ℕ
place_of Zero = 0
place_of One = 1
place_of Two = 2
place_of Three = 3
place_of Four = 4
place_of Five = 5
place_of Six = 6
place_of Seven = 7
place_of Eight = 8
place_of Nine = 9
place_of E = 10
place_of F = 11

abbrev pub accepts : Position → Symbol → Bool
accepts p s = slice_index_or p.accepts (place_of s) false

-- the first positions of an alternative take these symbols
abbrev pub takes : List Position → List Symbol → Bool
takes positions [] = true
takes [] (s ∷ more) = false
takes (p ∷ positions) (s ∷ more) = accepts p s && takes positions more

-- and it has no more positions than these
abbrev pub matches : List Position → List Symbol → Bool
matches positions symbols = takes positions symbols && length positions == length symbols

abbrev pub candidates_from : ℕ → DigitMap → List Symbol → List ℕ
candidates_from n [] symbols = []
candidates_from n (positions ∷ more) symbols =
    if takes positions symbols then n ∷ candidates_from (n + 1) more symbols else candidates_from (n + 1) more symbols

-- the alternatives that take these symbols, by their places
abbrev pub candidates : DigitMap → List Symbol → List ℕ
candidates map symbols = candidates_from 0 map symbols

-- the one number of a list that has one
abbrev pub only : List ℕ → Option ℕ
only [] = None
only (n ∷ []) = Some n
only (n ∷ m ∷ more) = None

abbrev pub if_matched : DigitMap → List Symbol → ℕ → Option ℕ
if_matched map symbols n = if matches (slice_index_or map n []) symbols then Some n else None

-- the alternative that is the only one left, if these symbols match it
abbrev pub sole_match : DigitMap → List Symbol → Option ℕ
sole_match map symbols = option_and_then (if_matched map symbols) (only (candidates map symbols))

-- the lowest alternative that these symbols match
abbrev pub first_match : DigitMap → List Symbol → Option ℕ
first_match map symbols = position (λ positions. matches positions symbols) map

-- some alternative takes these symbols, and they don't complete the map
abbrev pub goes_on : DigitMap → List Symbol → Bool
goes_on map symbols = not (is_empty (candidates map symbols)) && is_none (sole_match map symbols)

-- no front of these symbols completed the map
abbrev pub IsOpen : DigitMap → List Symbol → Type 0
IsOpen map symbols = (n : ℕ) → n < length symbols → IsTrue (goes_on map (take (suc n) symbols))

-- a completion: its method, the alternative that is matched, and the digit string
pub record Completion : Type 0 where
  pub method : Method
  pub alternative : Option ℕ
  pub symbols : List Symbol

abbrev pub ended_by : List Symbol → Option ℕ → Completion
ended_by symbols None = record { method = Partial; alternative = None; symbols = symbols }
ended_by symbols (Some n) = record { method = Full; alternative = Some n; symbols = symbols }

-- the completion where no further symbol counts: at one that no alternative takes, and at a pause
abbrev pub ended : DigitMap → List Symbol → Completion
ended map symbols = ended_by symbols (first_match map symbols)

-- what is collected: symbols, or nothing more once the map is completed
pub data Dialling : Type 0 where
  collecting : List Symbol → Dialling
  completed : Dialling

-- what a symbol makes of it: what is collected then, the completion if there is one, and whether the symbol was kept
pub record Collected : Type 0 where
  pub digits : Dialling
  pub completion : Option Completion
  pub kept : Bool

-- the symbols before, and then with one more: the only alternative left is matched; or none takes them, and the new one is
-- taken back; or collecting goes on
abbrev pub after_symbol : DigitMap → List Symbol → List Symbol → Collected
after_symbol map before symbols =
    if is_some (sole_match map symbols)
    then record { digits = completed; completion = Some (record { method = Unambiguous; alternative = sole_match map symbols; symbols = symbols }); kept = true }
    else if is_empty (candidates map symbols) then record { digits = completed; completion = Some (ended map before); kept = false }
    else record { digits = collecting symbols; completion = None; kept = true }

abbrev pub with_symbol : DigitMap → Dialling → Symbol → Collected
with_symbol map (collecting symbols) s = after_symbol map symbols (symbols ++ s ∷ [])
with_symbol map completed s = record { digits = completed; completion = None; kept = false }

-- what a pause makes of it
abbrev pub with_pause : DigitMap → Dialling → Collected
with_pause map (collecting symbols) = record { digits = completed; completion = Some (ended map symbols); kept = false }
with_pause map completed = record { digits = completed; completion = None; kept = false }

-- Reading a digit map from left to right: which fault is met first, and at which byte. What a map is stands in Grammar, and
-- what is read here is proved to be exactly that. A reader should check the places of the faults.
use Rattle.std.specs.Prelude.{ℕ, zero, suc, ◌+◌, ◌-◌, List, [], ◌∷◌, length, take, drop, slice_index, Bool, ◌&&◌, ◌||◌, ◌==◌, nat_lt, nat_le, if◌then◌else◌, Option, Some, None, Result, Ok, Err}
use Rattle.std.specs.List.{list_all, slice_split, before_first, after_first}
use Rattle.digits.specs.declared.fault.MapFault.{MapFault}
use Rattle.digits.specs.declared.fault.MapFault.TheVariants as fault
use Rattle.digits.specs.declared.span.Span.{Span}
use Rattle.mg_model.specs.declared.positions.Position.{Position}
use Rattle.digits.specs.Marks.{bar, dash, opening_bracket, closing_bracket, opening_parenthesis, closing_parenthesis, is_x}
use Rattle.digits.specs.Symbols.{is_digit, symbol_of, run, position_of}

infixl 10 ◌>>=◌
abbrev pub ◌>>=◌ : {A B : Type 0} → Result A MapFault → (A → Result B MapFault) → Result B MapFault
(Ok x) >>= f = f x
(Err e) >>= f = Err e

-- a value, and the bytes after it
abbrev pub Step : Type 0 → Type 0
Step A = List ℕ → Result (A × List ℕ) MapFault

-- at most n values, one after the other, to the end of the text
unfoldable pub values : {A : Type 0} → Step A → ℕ → List ℕ → Result (List A) MapFault
values step zero text = Ok []
values step (suc n) [] = Ok []
values step (suc n) (byte ∷ bytes) = do
  first ← step (byte ∷ bytes)
  others ← values step n first.1
  Ok (first.0 ∷ others)

-- values to the end of a text, of which each takes a byte at least
abbrev pub all_of : {A : Type 0} → Step A → List ℕ → Result (List A) MapFault
all_of step text = values step (length text) text

-- the run of two digits, the second not lower
unfoldable pub rising : ℕ → ℕ → Option Span
rising low high = if is_digit low && is_digit high && nat_le low high then Some (run (low - 48) (high - 48)) else None

abbrev pub or_fault : {A : Type 0} → MapFault → Option A → Result A MapFault
or_fault fault None = Err fault
or_fault fault (Some x) = Ok x

-- in a range: a digit, `-` and a digit that isn't lower; or one symbol. start is the place of the range.
unfoldable pub run_at : ℕ → Step Span
run_at start text =
    if nat_lt 2 (length text) && slice_index text 1 == dash
    then (or_fault (fault.BadRange start) (rising (slice_index text 0) (slice_index text 2)) >>= λ found. Ok (found, drop 3 text))
    else or_fault (fault.BadRange start) (symbol_of (slice_index text 0)) >>= λ symbol. Ok (run symbol symbol, drop 1 text)

abbrev pub is_end : ℕ → Bool
is_end byte = byte == closing_bracket

-- from `[` to the first `]`, with something between them
unfoldable pub range_at : ℕ → Step Position
range_at start text =
    let inside = drop 1 text in
    let content = before_first is_end inside in
    if length content == 0 || length content == length inside then Err (fault.BadRange start)
    else all_of (run_at start) content >>= λ runs. Ok (position_of runs, after_first is_end inside)

-- the position at the front of a text that ends at the place `end`
unfoldable pub position_at : ℕ → Step Position
position_at end text =
    let start = end - length text in
    let byte = slice_index text 0 in
    if byte == opening_bracket then range_at start text
    else if is_x byte then Ok (position_of (run 0 9 ∷ []), drop 1 text)
    else or_fault (fault.BadSymbol start) (symbol_of byte) >>= λ symbol. Ok (position_of (run symbol symbol ∷ []), drop 1 text)

-- an alternative that begins at the place `start`
unfoldable pub alternative_of : ℕ → List ℕ → Result (List Position) MapFault
alternative_of start text = if length text == 0 then Err fault.Empty else all_of (position_at (start + length text)) text

-- the alternatives, of which the first begins at the place `start`
unfoldable pub alternatives_of : ℕ → List (List ℕ) → Result (List (List Position)) MapFault
alternatives_of start [] = Ok []
alternatives_of start (text ∷ texts) = do
  first ← alternative_of start text
  others ← alternatives_of (start + length text + 1) texts
  Ok (first ∷ others)

-- one pair of parentheses stands round the whole text
abbrev pub is_wrapped : List ℕ → Bool
is_wrapped text = nat_le 2 (length text) && slice_index text 0 == opening_parenthesis && slice_index text (length text - 1) == closing_parenthesis

abbrev pub parts : List ℕ → List (List ℕ)
parts text = slice_split (λ byte. byte == bar) text

-- how many bytes parts take, each with a bar after it
abbrev pub bytes_of : List (List ℕ) → ℕ
bytes_of [] = 0
bytes_of (part ∷ more) = length part + 1 + bytes_of more

-- a bar stands before each part but the first
abbrev pub bar_before : ℕ → ℕ
bar_before zero = 0
bar_before (suc index) = 1

abbrev pub unwrapped : List ℕ → Result (List (List Position)) MapFault
unwrapped text = if is_wrapped text then alternatives_of 1 (parts (take (length text - 2) (drop 1 text))) else alternatives_of 0 (parts text)

-- 16 alternatives of 16 positions at most, which is this profile's own limit
abbrev pub fits : List (List Position) → Bool
fits alternatives = nat_le (length alternatives) 16 && list_all (λ alternative. nat_le (length alternative) 16) alternatives

-- the alternatives of a map's text
unfoldable pub map_of : List ℕ → Result (List (List Position)) MapFault
map_of text = unwrapped text >>= λ found. if fits found then Ok found else Err fault.TooLong

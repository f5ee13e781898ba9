-- The twelve symbols of a digit map: the digits 0 to 9, E as 10 and F as 11. Check that letters count in either case.
use Rattle.std.specs.Prelude.{ℕ, ◌-◌, List, Bool, ◌&&◌, ◌||◌, ◌==◌, nat_le, if◌then◌else◌, Option, Some, None, map}
use Rattle.std.specs.List.{list_any, range_with_len}
use Rattle.digits.specs.declared.span.Span.{Span}
use Rattle.mg_model.specs.declared.positions.Position.{Position}

-- a byte of `0` to `9`
abbrev pub is_digit : ℕ → Bool
is_digit byte = nat_le 48 byte && nat_le byte 57

-- the symbol that a byte writes
unfoldable pub symbol_of : ℕ → Option ℕ
symbol_of byte =
    if is_digit byte then Some (byte - 48)
    else if byte == 69 || byte == 101 then Some 10
    else if byte == 70 || byte == 102 then Some 11
    else None

-- the symbols from the low to the high one
abbrev pub run : ℕ → ℕ → Span
run low high = record { low = low; high = high }

-- a run has the symbol
abbrev pub reaches : Span → ℕ → Bool
reaches span symbol = nat_le span.low symbol && nat_le symbol span.high

-- one of the runs has it
abbrev pub reached : List Span → ℕ → Bool
reached spans symbol = list_any (λ span. reaches span symbol) spans

-- the position that accepts exactly the symbols of the runs
unfoldable pub position_of : List Span → Position
position_of spans = record { accepts = map (reached spans) (range_with_len 0 12) }

-- A gateway that starts, and the opening of a call. A reader should check that a line is taken that a call holds, that is named
-- twice or that stands in a context, and that an opening leaves hook states and everything else as it was.
use Rattle.std.specs.Prelude.{ℕ, ◌==◌, Bool, true, false, not, ◌&&◌, ◌||◌, if◌then◌else◌, List, [], ◌∷◌, Option, Some, None, is_some, option_map, Result, Ok, Err}
use Rattle.std.specs.List.{list_all}
use Rattle.mg_names.specs.declared.identifiers.LineNo.{LineNo}
use Rattle.mg_names.specs.declared.identifiers.TermId.{TermId}
use Rattle.mg_names.specs.declared.identifiers.TermId.TheVariants.{Line, Eph}
use Rattle.mg_names.specs.declared.modes.Mode.TheVariants.{Inactive}
use Rattle.mg_model.specs.declared.rows.Row.{Row}
use Rattle.mg_model.specs.Board.{Board}
use Rattle.mg_model.specs.Gateway.{Gateway}
use Rattle.mg_model.specs.Numbers.{first_association}
use Rattle.mg_model.specs.LineEvents.{LineRow, new_line}
use Rattle.contexts.specs.BoardValue.{names_line, started}
use Rattle.contexts.specs.BoardValue as board_value
use Rattle.requests.specs.Connected.{has_line, is_idle, opened_line}
use Rattle.gateway.specs.declared.fault.OpenFault.{OpenFault}
use Rattle.gateway.specs.declared.fault.OpenFault.TheVariants.{NoMemory, UnknownLine, Taken}

-- ---- a gateway that starts: association 1, each line in the null context, Inactive, on hook, silent, with an empty descriptor; it gives
-- numbers of this class

abbrev pub first_gateway : (ℕ → Bool) → List LineNo → Gateway
first_gateway class lines = record {
  association = first_association;
  board = board_value.opened class (started lines);
  line = λ l. new_line;
  holder = λ l. None;
  creator = λ k. None;
  link = λ call. record { last = None; notes = 0 };
  retired = λ call. false;
}

-- ---- an opening

-- a line is Inactive
abbrev pub inactive_row : Option Row → Option Row
inactive_row row = option_map (λ (r : Row). record r { mode = Inactive }) row

abbrev pub rows_opened : List LineNo → (TermId → Option Row) → TermId → Option Row
rows_opened lines rows (Line l) = if names_line lines l.0 then inactive_row (rows (Line l)) else rows (Line l)
rows_opened lines rows (Eph k) = rows (Eph k)

abbrev pub board_opened : List LineNo → Board → Board
board_opened lines b = record b { row = rows_opened lines b.row }

-- a line is silent and armed by `al/of` with `strict=exact` alone, with RequestID 0; its hook state stays
abbrev pub lines_opened : List LineNo → (ℕ → LineRow) → ℕ → LineRow
lines_opened lines rows l = if names_line lines l then opened_line (rows l) else rows l

-- the gateway after the opening of a call on lines
abbrev pub opened : Gateway → ℕ → List LineNo → Gateway
opened g call lines = record {
  association = g.association;
  board = board_opened lines g.board;
  line = lines_opened lines g.line;
  holder = λ l. if names_line lines l then Some call else g.holder l;
  creator = g.creator;
  link = λ c. if c == call then record { last = None; notes = 0 } else g.link c;
  retired = g.retired;
}

-- ---- what is answered

abbrev pub has_twice : List LineNo → Bool
has_twice [] = false
has_twice (l ∷ lines) = names_line lines l.0 || has_twice lines

-- a line is there in the null context, and no call holds it
abbrev pub is_free : Board → (ℕ → Option ℕ) → LineNo → Bool
is_free b holder l = is_idle b l.0 && not (is_some (holder l.0))

abbrev pub are_there : Board → List LineNo → Bool
are_there b lines = list_all (λ (l : LineNo). has_line b l.0) lines

abbrev pub are_free : Board → (ℕ → Option ℕ) → List LineNo → Bool
are_free b holder lines = list_all (is_free b holder) lines && not (has_twice lines)

-- the first fault that applies, by whether a call of this number was opened
abbrev pub opening_on : Board → (ℕ → Option ℕ) → Bool → List LineNo → Result (Unit {0}) OpenFault
opening_on b holder is_taken lines =
    if not (are_there b lines) then Err UnknownLine
    else if is_taken then Err Taken
    else if not (are_free b holder lines) then Err Taken
    else Ok tt

abbrev pub opening : Gateway → Bool → List LineNo → Result (Unit {0}) OpenFault
opening g is_taken lines = opening_on g.board g.holder is_taken lines

-- the fault says that memory ran out
abbrev pub is_memory : OpenFault → Bool
is_memory NoMemory = true
is_memory UnknownLine = false
is_memory Taken = false

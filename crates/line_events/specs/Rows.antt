-- The rows of the lines by number, and how a call changes the one row that it names.
use Rattle.std.specs.Prelude.{◌≡◌, ℕ, nat_eq, Bool, true, false, List, Option, Some, None, Result, Ok, Err}
use Rattle.std.specs.Map.{lookup}
use Rattle.mg_model.specs.Updates.{with_at}
use Rattle.mg_model.specs.LineEvents.{LineRow, Outcome}
use Rattle.line_events.specs.declared.fault.LineFault.{LineFault}
use Rattle.line_events.specs.declared.fault.LineFault.TheVariants.{UnknownLine, CannotHappen, NoMemory}
use Rattle.line_events.specs.Answers.{Answer, row_after, answer}

-- the row of a line; nothing where there is no such line
unfoldable pub row_of : List (ℕ × LineRow) → ℕ → Option LineRow
row_of rows n = lookup (nat_eq n) rows

-- what happens on a line, by its row
abbrev pub Happening : Type 0
Happening = LineRow → Option Outcome

abbrev pub after : Happening → Option LineRow → Option LineRow
after happens None = None
after happens (Some row) = Some (row_after row (happens row))

-- the rows after it: the row of the line is the one that it leaves, and where it can't happen, the one that was there
abbrev pub rows_after : (ℕ → Option LineRow) → ℕ → Happening → ℕ → Option LineRow
rows_after rows line happens = with_at rows line (after happens (rows line))

abbrev pub answer_on : Option LineRow → Happening → Answer
answer_on None happens = Err UnknownLine
answer_on (Some row) happens = answer (happens row)

-- the fault says that memory ran out
abbrev pub is_memory : LineFault → Bool
is_memory NoMemory = true
is_memory UnknownLine = false
is_memory CannotHappen = false

-- a line is added that isn't there
abbrev pub IsAdded : Result (Unit {0}) LineFault → Option LineRow → Type 0
IsAdded (Ok _) row = row ≡ None
IsAdded (Err CannotHappen) row = (found : LineRow) × (row ≡ Some found)
IsAdded (Err NoMemory) row = row ≡ None
IsAdded (Err UnknownLine) row = ⊥

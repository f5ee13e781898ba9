-- The standby beside the connections that are active, and where a request or an opening ends that runs from one of them. A reader
-- should check that the standby shows the same board and the same lines.
use Rattle.std.specs.Prelude.{◌≡◌, ℕ, ◌&&◌, if◌then◌else◌, List, Option, Some, None}
use Rattle.mg_model.specs.declared.failures.ChosenRefusal.{ChosenRefusal}
use Rattle.mg_model.specs.declared.failures.Failure.{Failure}
use Rattle.mg_names.specs.declared.identifiers.LineNo.{LineNo}
use Rattle.mg_names.specs.declared.identifiers.TermId.{TermId}
use Rattle.mg_names.specs.declared.identifiers.TermId.TheVariants.{Line, Eph}
use Rattle.mg_model.specs.declared.rows.Row.{Row}
use Rattle.mg_model.specs.Board.{Board}
use Rattle.mg_model.specs.Items.{Done}
use Rattle.mg_model.specs.LineEvents.{LineRow}
use Rattle.mg_model.specs.Messages.{Request}
use Rattle.mg_model.specs.RequestRun.{RaisedNote}
use Rattle.contexts.specs.BoardValue.{names_line}
use Rattle.requests.specs.Connected.{Connected, board_in, line_in, has_line, opened_line, Ends}
use Rattle.requests.specs.Idle.{idle_row}

pub record ShowsSame (one other : Connected) : Type 0 where
  pub board : board_in one ≡ board_in other
  pub lines : line_in one ≡ line_in other

abbrev pub IsStandby : Option Connected → Connected → Type 0
IsStandby None active = Unit {0}
IsStandby (Some standby) active = ShowsSame standby active

-- ---- where a request ends that runs from a start

-- it ends there with these results
pub record HasEnd (start : Connected) (request : Request) (refusal : Option ChosenRefusal) (ended : Connected) (results : List Done) : Type 0 where
  pub notes : List RaisedNote
  pub failure : Option Failure
  pub is_end : Ends start request refusal ended results notes failure

-- ---- where lines are opened

-- each of them that is in the null context is Inactive, and its row is that of an opened line
abbrev pub rows_idled : List LineNo → (TermId → Option Row) → TermId → Option Row
rows_idled lines rows (Line l) = if names_line lines l.0 then idle_row (rows (Line l)) else rows (Line l)
rows_idled lines rows (Eph k) = rows (Eph k)

abbrev pub board_idled : List LineNo → Board → Board
board_idled lines b = record b { row = rows_idled lines b.row }

abbrev pub lines_armed : Board → List LineNo → (ℕ → LineRow) → ℕ → LineRow
lines_armed b lines rows l = if has_line b l && names_line lines l then opened_line (rows l) else rows l

pub record ShowsOpened (start : Connected) (lines : List LineNo) (ended : Connected) : Type 0 where
  pub board : board_in ended ≡ board_idled lines (board_in start)
  pub rows : line_in ended ≡ lines_armed (board_in start) lines (line_in start)

-- What the connections of a gateway show: the board_value of the board and the rows of the lines; from them the pointwise board, the
-- row of each line, the state from which a request starts and the one in which it ends, and what becomes of the rows. A reader
-- should check that a line that isn't there is read as a new one, and that only the line that is named changes.
use Rattle.std.specs.Prelude.{◌≡◌, ℕ, ◌==◌, Bool, true, false, ◌&&◌, if◌then◌else◌, List, [], Option, Some, None, unwrap_or, is_some, Err}
use Rattle.mg_names.specs.declared.identifiers.TermId.TheVariants.{Line}
use Rattle.mg_model.specs.declared.failures.ChosenRefusal.{ChosenRefusal}
use Rattle.mg_model.specs.declared.failures.Failure.{Failure}
use Rattle.mg_model.specs.Board.{Board, IsSettled, exists, place_of}
use Rattle.mg_model.specs.Items.{Done}
use Rattle.mg_model.specs.LineEvents.{LineRow, Outcome, new_line}
use Rattle.mg_model.specs.Messages.{Request}
use Rattle.mg_model.specs.RequestRun.{RaisedNote, Running, RunsFrom}
use Rattle.mg_model.specs.World.{armed_line}
use Rattle.mg_model.specs.Numbers.{the_line}
use Rattle.contexts.specs.BoardValue.{BoardValue, board_of}
use Rattle.line_events.specs.declared.fault.LineFault.TheVariants.{UnknownLine}
use Rattle.line_events.specs.Answers.{Answer, row_after, answer}
use Rattle.line_events.specs.Rows.{row_of}

pub record Connected : Type 0 where
  pub board_value : BoardValue
  pub lines : List (ℕ × LineRow)

abbrev pub board_in : Connected → Board
board_in c = board_of c.board_value

-- the row of a line; a line that isn't there is read as a new one
abbrev pub line_in : Connected → ℕ → LineRow
line_in c l = unwrap_or (row_of c.lines l) new_line

-- whether a line is there
abbrev pub has_line : Board → ℕ → Bool
has_line b l = exists b (Line (the_line l))

-- the row of a line that is there
abbrev pub line_there : Connected → ℕ → Option LineRow
line_there c l = if has_line (board_in c) l then Some (line_in c l) else None

-- whether a line is there, in the null context
abbrev pub is_idle : Board → ℕ → Bool
is_idle b l = has_line b l && (place_of b (Line (the_line l)) == 0)

-- the lines of the board are those that have rows
abbrev pub IsMatched : Board → (ℕ → Option LineRow) → Type 0
IsMatched b rows = (l : ℕ) → has_line b l ≡ is_some (rows l)

-- ---- the run of a request

abbrev pub start_in : Connected → Running
start_in c = record { board = board_in c; line = line_in c; results = []; notes = [] }

abbrev pub end_in : Connected → List Done → List RaisedNote → Running
end_in c results notes = record { board = board_in c; line = line_in c; results = results; notes = notes }

-- a request that ran from a start ended here, with these results and notes: the board is the one that it left, settled
pub record Ends (start : Connected) (request : Request) (refusal : Option ChosenRefusal) (ended : Connected) (results : List Done) (notes : List RaisedNote) (failure : Option Failure) : Type 0 where
  pub board : Board
  pub runs : RunsFrom request.number refusal (start_in start) 0 request.commands (record { board = board; line = line_in ended; results = results; notes = notes }) failure
  pub is_settled : IsSettled board (board_in ended)

-- a request that runs from a start has these results
pub record HasResults (start : Connected) (request : Request) (refusal : Option ChosenRefusal) (results : List Done) : Type 0 where
  pub end : Running
  pub failure : Option Failure
  pub runs : RunsFrom request.number refusal (start_in start) 0 request.commands end failure
  pub results_are : end.results ≡ results

-- ---- what happens on a line

-- what is answered; nothing happens on a line that isn't there
abbrev pub answer_where : Bool → Option Outcome → Answer
answer_where false outcome = Err UnknownLine
answer_where true outcome = answer outcome

-- the rows after it: the row of the line is the one that it leaves, where the line is there and where it can happen
abbrev pub lines_after : Bool → (ℕ → LineRow) → ℕ → Option Outcome → ℕ → LineRow
lines_after there rows l outcome other = if there && (other == l) then row_after (rows l) outcome else rows other

-- a line is opened: silent, armed by `al/of` with `strict=exact` alone, with RequestID 0; its hook state stays
abbrev pub opened_line : LineRow → LineRow
opened_line row = record armed_line { hook = row.hook }

abbrev pub lines_opened : Bool → (ℕ → LineRow) → ℕ → ℕ → LineRow
lines_opened there rows l other = if there && (other == l) then opened_line (rows l) else rows other

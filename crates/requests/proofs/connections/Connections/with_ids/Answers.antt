-- A line that is filled where none was is a new one.
use Rattle.std.proofs.Common.{◌≡◌, ◌∙◌, ◌==◌, ℕ, Bool, true, false, List, Option, Some, None, if◌then◌else◌, ap, refl, unwrap_or}
use Rattle.std.specs.List.{list_any}
use Rattle.mg_names.specs.declared.identifiers.LineNo.{LineNo}
use Rattle.mg_model.specs.LineEvents.{LineRow, new_line}
use Rattle.contexts.specs.BoardValue.{board_of}
use Rattle.line_events.specs.Rows.{row_of}
use Rattle.requests.specs.Commands.{filled}
use Rattle.requests.proofs.connections.Connections.with_ids.Goals as goal

filled_new : (lines : List LineNo) (row : Option LineRow) (n : ℕ) → row ≡ None → unwrap_or (filled lines (λ m. row) n) new_line ≡ new_line
filled_new lines row n none = by_test (list_any (λ (l : LineNo). n == l.0) lines)
  where
    by_test : (among : Bool) → unwrap_or (if among then Some (unwrap_or row new_line) else row) new_line ≡ new_line
    by_test true = ap (λ (r : Option LineRow). unwrap_or r new_line) none
    by_test false = ap (λ (r : Option LineRow). unwrap_or r new_line) none

pub returns-clause-lines : goal.returns-clause-lines
returns-clause-lines c =
    ap (λ rows. (λ l. unwrap_or (row_of rows l) new_line)) c.in_ok-new-2.ensures.ok
    ∙ (λ i l.
    (ap (λ (r : Option LineRow). unwrap_or r new_line) (c.in_ok-add_lines.ensures l)
    ∙ filled_new c.args.lines.now (row_of c.new-rows.result l) l (λ j. c.new-rows.ensures j l)) i)

pub returns-clause-board : goal.returns-clause-board
returns-clause-board c = ap board_of c.in_ok-new.ensures.ok ∙ c.in_ok-board.ensures

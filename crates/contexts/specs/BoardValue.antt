-- What a board shows, which is read off its tables, and the rows and the board of a gateway that starts. A reader should check that
-- each line that is named is there and idle, and that nothing else is there.
use Rattle.std.specs.Prelude.{ℕ, ◌==◌, Bool, false, if◌then◌else◌, List, Option, Some, None}
use Rattle.std.specs.List.{list_any}
use Rattle.mg_names.specs.declared.identifiers.LineNo.{LineNo}
use Rattle.mg_names.specs.declared.identifiers.TermId.{TermId}
use Rattle.mg_names.specs.declared.identifiers.TermId.TheVariants.{Line, Eph}
use Rattle.mg_model.specs.declared.rows.Row.{Row}
use Rattle.mg_model.specs.Board.{Board, null_row}
pub use Rattle.contexts.specs.TiedBoard.{BoardValue, cuts_at, cut_of, stands_in, IsTied, IsOneClass, CanEnter}
unfoldable pub use Rattle.contexts.specs.TiedBoard.{board_of}

-- ---- a gateway that starts

abbrev pub names_line : List LineNo → ℕ → Bool
names_line lines n = list_any (λ l. n == l.0) lines

abbrev pub started : List LineNo → TermId → Option Row
started lines (Line l) = if names_line lines l.0 then Some null_row else None
started lines (Eph k) = None

-- rows, with nothing cut and no number used; numbers of this class are given
abbrev pub opened : (ℕ → Bool) → (TermId → Option Row) → Board
opened class rows = record { row = rows; cut = λ t u. false; used_context = λ n. false; used_ephemeral = λ n. false; class = class }

-- a line that is there stays
abbrev pub or_idle : Option Row → Row
or_idle None = null_row
or_idle (Some row) = row

-- rows with lines added
abbrev pub filled : List LineNo → (TermId → Option Row) → TermId → Option Row
filled lines rows (Line l) = if names_line lines l.0 then Some (or_idle (rows (Line l))) else rows (Line l)
filled lines rows (Eph k) = rows (Eph k)

-- What becomes of the row of a line that is set Inactive. A reader should check that nothing else of the row changes, and nothing
-- at all of a line outside the null context.
use Rattle.std.specs.Prelude.{ℕ, ◌==◌, if◌then◌else◌, Option, Some, None}
use Rattle.mg_names.specs.declared.identifiers.TermId.TheVariants.{Line}
use Rattle.mg_names.specs.declared.modes.Mode.TheVariants.{Inactive}
use Rattle.mg_model.specs.Numbers.{null, the_line}
use Rattle.mg_model.specs.declared.rows.Row.{Row}
use Rattle.mg_model.specs.Board.{Board}
use Rattle.mg_model.specs.Items.{with_row}

abbrev pub idle_row : Option Row → Option Row
idle_row None = None
idle_row (Some row) = if row.place.0 == null then Some (record row { mode = Inactive }) else Some row

abbrev pub deactivated : Board → ℕ → Board
deactivated b l = with_row b (Line (the_line l)) (idle_row (b.row (Line (the_line l))))

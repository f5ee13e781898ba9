-- How the rows of terminations change in a command. A reader should check that a setting that is left out changes nothing.
use Rattle.std.specs.Prelude.{ℕ, Option, Some}
use Rattle.mg_names.specs.declared.identifiers.TermId.{TermId}
use Rattle.mg_names.specs.declared.identifiers.TermId.TheVariants.{Line, Eph}
use Rattle.mg_model.specs.declared.items.Settings.{Settings}
use Rattle.mg_model.specs.declared.rows.Row.{Row}
use Rattle.mg_model.specs.Board.{mode_in, remote_in}
use Rattle.mg_model.specs.Items.{row_at}

-- a row in a context, with what a command sets
abbrev pub row_in : ℕ → Settings → Option Row → Option Row
row_in c settings row = Some (row_at c settings (mode_in row) (remote_in row))

abbrev pub IsLine : TermId → Type 0
IsLine (Line l) = Unit {0}
IsLine (Eph k) = ⊥

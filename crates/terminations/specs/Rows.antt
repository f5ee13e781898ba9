-- The row of a termination after a command. A reader should check that a setting that is left out changes nothing.
use Rattle.std.specs.Prelude.{Bool, true, false, Option, Some, None, unwrap_or}
use Rattle.mg_names.specs.declared.identifiers.ContextId.{ContextId}
use Rattle.mg_names.specs.declared.identifiers.TermId.{TermId}
use Rattle.mg_names.specs.declared.identifiers.TermId.TheVariants.{Line, Eph}
use Rattle.mg_model.specs.declared.items.RemoteSetting.{RemoteSetting}
use Rattle.mg_model.specs.declared.items.Settings.{Settings}
use Rattle.mg_model.specs.declared.rows.Row.{Row}
use Rattle.mg_model.specs.Items.{row_at}

-- the row with what a command sets, in the context that it is put into; where it stands, if it is put into none
abbrev pub row_set : Option ContextId → Settings → Row → Row
row_set context settings row = row_at (unwrap_or context row.place).0 settings row.mode row.remote

-- a row that isn't there stays so
abbrev pub set_on : Option ContextId → Settings → Option Row → Option Row
set_on context settings None = None
set_on context settings (Some row) = Some (row_set context settings row)

-- a line is given no Remote
abbrev pub fits : TermId → Option RemoteSetting → Bool
fits (Line l) None = true
fits (Line l) (Some remote) = false
fits (Eph k) remote = true

-- Whether what happens on a line raises a note.
use Rattle.std.specs.Prelude.{Bool, false, Option, Some, None, is_some}
use Rattle.mg_model.specs.LineEvents.{Outcome}

abbrev pub is_raised : Option Outcome → Bool
is_raised None = false
is_raised (Some outcome) = is_some outcome.note

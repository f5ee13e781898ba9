-- The statement of the law of accepted scripts. A reader should check that it is about every answer of the reader that is a table.
use Rattle.std.specs.Prelude.{ℕ, List, Ok}
use Rattle.mg_model.specs.Accepted.{HasFewCommands, IsScript}
use Rattle.mg_model.specs.Script.{Script}
use Rattle.scriptreader.specs.Reading.{ReadsScript}

-- every table that bytes are read as is an accepted script, and none of its states has more commands
abbrev pub AcceptedScripts : Type 0
AcceptedScripts = (bytes : List ℕ) (table : Script) → ReadsScript bytes (Ok table) → IsScript table × HasFewCommands table

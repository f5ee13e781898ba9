-- A script that creates a context twice, and entries for it. The script has two lines and the context c: from `idle` the timer leads to `first`,
-- which creates c with line a in it, and then to `second`, which creates c once more, with line b in it, and ends in `done`. The entries have
-- all that can stand up to the request of `second`: there c is bound already, and no steps are asked for, so nothing else is wrong.
use Rattle.std.specs.Prelude.{ℕ, true, List, [], ◌∷◌, Some, None, codes}
use Rattle.mg_names.specs.declared.context_values.ContextValue.TheVariants.{Free, Live}
use Rattle.mg_names.specs.declared.phases.LinkPhase.TheVariants.{Sent, Answered, Failed, Resting}
use Rattle.mg_model.specs.declared.commands.Command.{Command}
use Rattle.mg_model.specs.declared.commands.Command.TheVariants.{AddLine}
use Rattle.mg_model.specs.declared.commands.EventsName.TheVariants.{Empty, Armed}
use Rattle.mg_model.specs.Entries.{Entry}
use Rattle.mg_model.specs.Script.{Script, State}
use Rattle.mg_examples.specs.EntriesOfTwo.{null, alone, entry_of}
use Rattle.mg_examples.specs.TwoLines.{idle, done}

-- ---- the script

abbrev pub waiting : State
waiting = record (idle []) { timer = Some 1 }

-- a line is added to a new context c, with nothing set
abbrev pub add : ℕ → Command
add i = AddLine true 0 i record { mode = None; events = None; signals = None }

abbrev pub first : State
first = record (idle []) { name = codes "first"; commands = add 0 ∷ []; ok = Some 2; fault = Some 0 }

abbrev pub second : State
second = record (idle []) { name = codes "second"; commands = add 1 ∷ []; ok = Some 3; fault = Some 0 }

abbrev pub lost : State
lost = record (idle []) { name = codes "lost" }

abbrev pub created_twice : Script
created_twice = record {
  lines = codes "a" ∷ codes "b" ∷ [];
  contexts = codes "c" ∷ [];
  ephemerals = [];
  lists = [];
  signals = [];
  maps = [];
  states = waiting ∷ first ∷ second ∷ done ∷ lost ∷ [];
  start = 0;
  restart = 4;
}

-- ---- the entries

abbrev pub at_idle : Entry
at_idle = entry_of 0 (Answered ∷ Resting ∷ []) Armed null null (Some Free)

abbrev pub before_first : Entry
before_first = entry_of 1 (Sent ∷ Failed ∷ []) Armed null null (Some Free)

abbrev pub after_first : Entry
after_first = entry_of 1 (Answered ∷ []) Armed alone null (Some Live)

abbrev pub before_second : Entry
before_second = entry_of 2 (Sent ∷ []) Armed alone null (Some Live)

abbrev pub at_lost : Entry
at_lost = entry_of 4 (Answered ∷ Resting ∷ []) Empty null null (Some Free)

abbrev pub created_twice_entries : List Entry
created_twice_entries = at_idle ∷ before_first ∷ after_first ∷ before_second ∷ at_lost ∷ []

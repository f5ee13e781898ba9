-- A script that uses a context's name after the context is gone, and its entries. The script has two lines and the context c. In `idle` line a
-- goes off hook; `make` creates c with line a in it, `leave` subtracts line a, and `again` adds line a to c once more. When the request of `again`
-- is sent nobody stands in c and its name is still bound. A request that is refused is sent again. The entries have all that can stand; for
-- the checker the request of `again` can only be refused, so nothing else is wrong.
use Rattle.std.specs.Prelude.{Bool, true, false, List, [], ◌∷◌, Some, None, codes}
use Rattle.mg_names.specs.declared.context_values.ContextValue.TheVariants.{Free, Live, Stale}
use Rattle.mg_names.specs.declared.kinds.Kind.TheVariants.{Of}
use Rattle.mg_names.specs.declared.modes.Mode.TheVariants.{SendReceive}
use Rattle.mg_names.specs.declared.phases.LinkPhase.TheVariants.{Sent, Answered, Failed, Resting}
use Rattle.mg_model.specs.declared.commands.Command.{Command}
use Rattle.mg_model.specs.declared.commands.Command.TheVariants.{AddLine, Subtract}
use Rattle.mg_model.specs.declared.commands.EventsName.TheVariants.{Empty, Armed}
use Rattle.mg_model.specs.declared.commands.Termination.TheVariants.{Line}
use Rattle.mg_model.specs.declared.transitions.Transition.{Transition}
use Rattle.mg_model.specs.Entries.{Entry}
use Rattle.mg_model.specs.Script.{Script, State}
use Rattle.mg_examples.specs.EntriesOfTwo.{null, talking, subtracted, entry_of}
use Rattle.mg_examples.specs.TwoLines.{idle}

-- ---- the script

-- line a is added to the context c, a new one or the one of that name, and may be heard and hear
abbrev pub add : Bool → Command
add create = AddLine create 0 0 record { mode = Some SendReceive; events = None; signals = None }

abbrev pub to_make_off_hook : List Transition
to_make_off_hook = record { line = 0; kind = Of; target = 1 } ∷ []

abbrev pub make : State
make = record (idle []) { name = codes "make"; commands = add true ∷ []; ok = Some 2; fault = Some 1 }

abbrev pub leave : State
leave = record (idle []) { name = codes "leave"; commands = Subtract 0 (Line 0) ∷ []; ok = Some 3; fault = Some 2 }

abbrev pub again : State
again = record (idle []) { name = codes "again"; commands = add false ∷ []; fault = Some 3 }

abbrev pub lost : State
lost = record (idle []) { name = codes "lost" }

abbrev pub name_kept : Script
name_kept = record {
  lines = codes "a" ∷ codes "b" ∷ [];
  contexts = codes "c" ∷ [];
  ephemerals = [];
  lists = [];
  signals = [];
  maps = [];
  states = idle to_make_off_hook ∷ make ∷ leave ∷ again ∷ lost ∷ [];
  start = 0;
  restart = 4;
}

-- ---- the entries

abbrev pub at_idle : Entry
at_idle = entry_of 0 (Resting ∷ []) Armed null null (Some Free)

abbrev pub before_make : Entry
before_make = entry_of 1 (Sent ∷ Failed ∷ []) Armed null null (Some Free)

abbrev pub after_make : Entry
after_make = entry_of 1 (Answered ∷ []) Armed talking null (Some Live)

abbrev pub before_leave : Entry
before_leave = entry_of 2 (Sent ∷ Failed ∷ []) Armed talking null (Some Live)

abbrev pub after_leave : Entry
after_leave = entry_of 2 (Answered ∷ []) Armed subtracted null (Some Stale)

abbrev pub before_again : Entry
before_again = entry_of 3 (Sent ∷ Failed ∷ []) Armed subtracted null (Some Stale)

abbrev pub at_lost : Entry
at_lost = entry_of 4 (Answered ∷ Resting ∷ []) Empty null null (Some Free)

abbrev pub name_kept_entries : List Entry
name_kept_entries = at_idle ∷ before_make ∷ after_make ∷ before_leave ∷ after_leave ∷ before_again ∷ at_lost ∷ []

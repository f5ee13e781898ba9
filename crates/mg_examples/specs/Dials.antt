-- A script that waits for a number, and its entries. Where line a goes off hook the call enters `dial`, in which line a collects the symbols of a number with
-- two digits and reports nothing else; the note of a number that is whole leads to `stopped`, and so does a refusal. A reader should check that the reader of
-- scripts has nothing against it, that nothing else leads on from `dial`, and that the entries have all that can stand.
use Rattle.std.specs.Prelude.{true, false, List, [], ◌∷◌, Some, None, codes}
use Rattle.mg_names.specs.declared.kinds.Kind.TheVariants.{Full}
use Rattle.mg_names.specs.declared.phases.LinkPhase.TheVariants.{Sent, Answered, Failed, Resting}
use Rattle.mg_model.specs.declared.commands.Command.{Command}
use Rattle.mg_model.specs.declared.commands.Command.TheVariants.{ModifyLine}
use Rattle.mg_model.specs.declared.commands.EventsName.TheVariants.{Empty, Armed, Own}
use Rattle.mg_model.specs.declared.commands.Place.TheVariants.{NullContext}
use Rattle.mg_model.specs.declared.positions.Position.{Position}
use Rattle.mg_model.specs.declared.transitions.EventItem.TheVariants.{Digits}
use Rattle.mg_model.specs.Entries.{Entry}
use Rattle.mg_model.specs.Script.{Script, State, DigitMap}
use Rattle.mg_examples.specs.EntriesOfTwo.{Place, null, entry_of}
use Rattle.mg_examples.specs.TwoLines.{idle, stopped, to_talk_off_hook}
use Rattle.mg_examples.specs.Unarmed.{resting_idle}

-- ---- the script

-- the symbol 1 and no other
abbrev pub one : Position
one = record {
  accepts = false ∷ true ∷ false ∷ false ∷ false ∷ false ∷ false ∷ false ∷ false ∷ false ∷ false ∷ false ∷ [];
}

-- the map `11`
abbrev pub eleven : DigitMap
eleven = (one ∷ one ∷ []) ∷ []

-- line a gets the list `keys`, whose only item is `dd/ce` with that map
abbrev pub asks_keys : Command
asks_keys = ModifyLine NullContext 0 record { mode = None; events = Some (Own 0); signals = None }

abbrev pub dial : State
dial = record (idle []) {
  name = codes "dial";
  commands = asks_keys ∷ [];
  fault = Some 2;
  on = record { line = 0; kind = Full; target = 2 } ∷ [];
}

-- off hook leads from `idle` to the state with the number 1, which is `dial` here
abbrev pub dials : Script
dials = record {
  lines = codes "a" ∷ codes "b" ∷ [];
  contexts = [];
  ephemerals = [];
  lists = record { name = codes "keys"; items = Digits 0 ∷ [] } ∷ [];
  signals = [];
  maps = record { name = codes "number"; map = eleven } ∷ [];
  states = idle to_talk_off_hook ∷ dial ∷ stopped ∷ [];
  start = 0;
  restart = 0;
}

-- ---- its entries

-- in `idle` with empty events lists: what a call is in after a restart
abbrev pub after_a_restart : Entry
after_a_restart = entry_of 0 (Answered ∷ Resting ∷ []) Empty null null None

-- the request of `dial` is sent, or was refused
abbrev pub not_asked : Entry
not_asked = entry_of 1 (Sent ∷ Failed ∷ []) Armed null null None

-- line a in the null context, with the list `keys`
abbrev pub with_keys : Place
with_keys = record null { own = Some (Own 0) }

abbrev pub collects : Entry
collects = entry_of 1 (Answered ∷ Resting ∷ []) Armed with_keys null None

-- in `stopped`, after a refusal and after a number
abbrev pub stopped_at_once : Entry
stopped_at_once = entry_of 2 (Answered ∷ Resting ∷ []) Armed null null None

abbrev pub stopped_dialled : Entry
stopped_dialled = entry_of 2 (Answered ∷ Resting ∷ []) Armed with_keys null None

-- all that such a call can be in
abbrev pub dial_entries : List Entry
dial_entries = after_a_restart ∷ resting_idle ∷ not_asked ∷ collects ∷ stopped_at_once ∷ stopped_dialled ∷ []

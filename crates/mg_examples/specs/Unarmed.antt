-- A script whose end state leaves lines that report nothing, and its entries: a call rests in `idle`, and after a restart it goes to `done`, an end
-- state, without arming its lines. The entries have all that can stand. A reader should check that the only thing wrong is the last entry
-- at rest.
use Rattle.std.specs.Prelude.{List, [], ◌∷◌, None, codes}
use Rattle.mg_names.specs.declared.phases.LinkPhase.TheVariants.{Answered, Resting}
use Rattle.mg_model.specs.declared.commands.EventsName.TheVariants.{Empty, Armed}
use Rattle.mg_model.specs.Entries.{Entry}
use Rattle.mg_model.specs.Script.{Script}
use Rattle.mg_examples.specs.EntriesOfTwo.{null, entry_of}
use Rattle.mg_examples.specs.TwoLines.{idle, done}

abbrev pub unarmed : Script
unarmed = record {
  lines = codes "a" ∷ codes "b" ∷ [];
  contexts = [];
  ephemerals = [];
  lists = [];
  signals = [];
  maps = [];
  states = idle [] ∷ done ∷ [];
  start = 0;
  restart = 1;
}

abbrev pub resting_idle : Entry
resting_idle = entry_of 0 (Resting ∷ []) Armed null null None

abbrev pub ended : Entry
ended = entry_of 1 (Answered ∷ Resting ∷ []) Empty null null None

abbrev pub unarmed_entries : List Entry
unarmed_entries = resting_idle ∷ ended ∷ []

-- The script of a call that can have two reports. It has two lines and the contexts c and d. The timer leads to `first`, which puts line a into a new context c and
-- takes it out again, so that nobody stands in c and its name is still bound; then `second` puts line a into a new context d and takes it out of c. Where the
-- gateway gives d the number of c both commands are done, and the call rests in `second`; where it gives another one, c is no context, and the call is refused
-- and goes on to `refused`. Its text is one that the reader accepts.
use Rattle.std.specs.Prelude.{ℕ, true, List, [], ◌∷◌, Some, None, codes}
use Rattle.mg_model.specs.declared.commands.Command.{Command}
use Rattle.mg_model.specs.declared.commands.Command.TheVariants.{AddLine, Subtract}
use Rattle.mg_model.specs.declared.commands.Termination.TheVariants.{Line}
use Rattle.mg_model.specs.Script.{Script, State}
use Rattle.mg_examples.specs.TwoLines.{idle}

abbrev pub waiting : State
waiting = record (idle []) { timer = Some 1 }

-- line a is put into a new context of the first name, and taken out of the context of the second
abbrev pub puts_and_takes_out : ℕ → ℕ → List Command
puts_and_takes_out new old = AddLine true new 0 record { mode = None; events = None; signals = None } ∷ Subtract old (Line 0) ∷ []

abbrev pub first : State
first = record (idle []) { name = codes "first"; commands = puts_and_takes_out 0 0; ok = Some 2; fault = Some 3 }

abbrev pub second : State
second = record (idle []) { name = codes "second"; commands = puts_and_takes_out 1 0; fault = Some 3 }

abbrev pub refused : State
refused = record (idle []) { name = codes "refused" }

abbrev pub name_stays : Script
name_stays = record {
  lines = codes "a" ∷ codes "b" ∷ [];
  contexts = codes "c" ∷ codes "d" ∷ [];
  ephemerals = [];
  lists = [];
  signals = [];
  maps = [];
  states = waiting ∷ first ∷ second ∷ refused ∷ [];
  start = 0;
  restart = 3;
}

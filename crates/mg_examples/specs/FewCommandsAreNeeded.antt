-- That the law that each call can be brought to its end (`CallsCanBeEnded` of `mg_safety`) needs its premise of few commands: left out, the law is false. What
-- shows it is a script whose last state asks for 37 commands. It is a script by `IsScript`, and its entries break no obligation; the reader refuses it. Where a
-- call waits in that state, and the user of its line a went off hook and on hook so often that the numbers of notes are used up but for 36, two moves lead the
-- call to its end and numbers are left for both as `NumbersLast` counts them, 18 for each; but the gateway executes no request of 37 commands for which it has
-- numbers for 36 notes, so the call waits for ever. A reader should check that the statement is the law without that premise and nothing else.
use Rattle.std.specs.Prelude.{◌≡◌, ℕ, zero, suc, true, List, [], ◌∷◌, Some, None, codes}
use Rattle.std.specs.List.{All}
use Rattle.mg_names.specs.declared.phases.LinkPhase.TheVariants.{Sent, Answered, Failed, Resting}
use Rattle.mg_model.specs.declared.commands.Command.{Command}
use Rattle.mg_model.specs.declared.commands.Command.TheVariants.{ModifyLine}
use Rattle.mg_model.specs.declared.commands.EventsName.TheVariants.{Empty, Armed}
use Rattle.mg_model.specs.declared.commands.Place.TheVariants.{NullContext}
use Rattle.mg_model.specs.declared.events.Event.{Event}
use Rattle.mg_model.specs.Accepted.{IsEntryOf, IsScript}
use Rattle.mg_model.specs.Agent.{Agent}
use Rattle.mg_model.specs.Configuration.{Configuration}
use Rattle.mg_model.specs.Entries.{Entry, IsCovered}
use Rattle.mg_model.specs.Obligations.{NoneBroken}
use Rattle.mg_model.specs.Script.{Script, State}
use Rattle.mg_model.specs.World.{World, Opened, IsOpening, Runs}
use Rattle.mg_safety.specs.Ending.{IsWorth}
use Rattle.mg_safety.specs.Followed.{IsShownBy}
use Rattle.mg_examples.specs.EntriesOfTwo.{null, entry_of}
use Rattle.mg_examples.specs.TwoLines.{idle, done, to_talk_off_hook}

-- ---- the script

-- line a is named, and nothing is set on it
abbrev pub sets_nothing : Command
sets_nothing = ModifyLine NullContext 0 record { mode = None; events = None; signals = None }

abbrev pub repeated : ℕ → Command → List Command
repeated zero command = []
repeated (suc n) command = command ∷ repeated n command

-- an end state, which a call is at the end of once its request is answered
abbrev pub ends : State
ends = record (idle []) { name = codes "ends"; commands = repeated 37 sets_nothing; is_end = true; fault = Some 2 }

-- off hook leads from `idle` to the state with the number 1, which is `ends` here
abbrev pub asks_much : Script
asks_much = record {
  lines = codes "a" ∷ codes "b" ∷ [];
  contexts = [];
  ephemerals = [];
  lists = [];
  signals = [];
  maps = [];
  states = idle to_talk_off_hook ∷ ends ∷ done ∷ [];
  start = 0;
  restart = 0;
}

-- ---- its entries

-- in `idle`: with empty events lists, what a call is in after a restart; and armed, what a call opens in
abbrev pub after_a_restart : Entry
after_a_restart = entry_of 0 (Answered ∷ Resting ∷ []) Empty null null None

abbrev pub opened : Entry
opened = entry_of 0 (Resting ∷ []) Armed null null None

-- the request of `ends` is sent, or was refused
abbrev pub not_answered : Entry
not_answered = entry_of 1 (Sent ∷ Failed ∷ []) Armed null null None

abbrev pub at_an_end : Entry
at_an_end = entry_of 1 (Answered ∷ Resting ∷ []) Armed null null None

-- in `done`, after a refusal
abbrev pub refused : Entry
refused = entry_of 2 (Answered ∷ Resting ∷ []) Armed null null None

-- all that such a call can be in
abbrev pub much_entries : List Entry
much_entries = after_a_restart ∷ opened ∷ not_answered ∷ at_an_end ∷ refused ∷ []

-- ---- the law without its premise of few commands is false

abbrev pub FewCommandsAreNeeded : Type 0
FewCommandsAreNeeded =
    ((script : Script) (entries : List Entry) → IsScript script → All (IsEntryOf script) entries → NoneBroken script entries
    → (calls : List Opened) (events : List Event) (opening end : World) → IsOpening script calls opening → Runs script events opening end
    → (call : ℕ) (a : Agent) → end.agent call ≡ Some a → a.association ≡ end.gateway.association
    → (c : Configuration) × (IsCovered entries c × (IsShownBy script end a c × IsWorth script end call a c)))
    → ⊥

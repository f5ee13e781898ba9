-- A call that begins on the lines of one that has ended, and talks: under a script and entries that break no obligation, so the promise over runs
-- speaks of such calls too. Seven events: line a goes off hook, and the note of it leads call 7 to the end state, where it comes to rest; call 8
-- begins on the lines of call 7, which is retired, its timer leads to the state `talk`, its request is executed, and the reply is taken. A reader
-- should check that each premise of the promise is here, that the line is off hook when call 8 begins, and that the last world joins the lines for
-- call 8, which is the only one left.
use Rattle.std.specs.Prelude.{◌≡◌, ◌+◌, List, [], ◌∷◌, Some, None, codes}
use Rattle.std.specs.List.{All}
use Rattle.mg_names.specs.declared.context_values.ContextValue.TheVariants.{Free}
use Rattle.mg_names.specs.declared.kinds.Kind.TheVariants.{Of}
use Rattle.mg_names.specs.declared.phases.LinkPhase.TheVariants.{Answered, Resting}
use Rattle.mg_model.specs.declared.commands.EventsName.TheVariants.{Empty, Armed}
use Rattle.mg_model.specs.declared.events.Event.{Event}
use Rattle.mg_model.specs.declared.line_events.Hook.TheVariants as hooks
use Rattle.mg_model.specs.declared.line_events.LineEvent.TheVariants as event
use Rattle.mg_model.specs.declared.transitions.Transition.{Transition}
use Rattle.mg_model.specs.Accepted.{IsScript, IsEntryOf}
use Rattle.mg_model.specs.Agent.{Agent}
use Rattle.mg_model.specs.Entries.{Entry}
use Rattle.mg_model.specs.Media.{AreJoined}
use Rattle.mg_model.specs.Obligations.{NoneBroken}
use Rattle.mg_model.specs.Script.{Script, State}
use Rattle.mg_model.specs.World.{World, on_a_line, note, pass, begin, timer, execute, reply, Opened, IsOpening, Runs}
use Rattle.mg_examples.specs.EntriesOfTwo.{null, entry_of}
use Rattle.mg_examples.specs.Talk.{call}
use Rattle.mg_examples.specs.TalkEntries.{idle_armed, sent, half, both, stopped_at_once, stopped_half}
use Rattle.mg_examples.specs.TwoLines.{idle, talk, stopped, done}
use Rattle.mg_examples.specs.TwoTalks.{both_lines}

-- ---- the script

abbrev pub to_done_off_hook : List Transition
to_done_off_hook = record { line = 0; kind = Of; target = 3 } ∷ []

-- a call opens here, ends when line a goes off hook, and talks when its timer ends
abbrev pub ready : State
ready = record (idle to_done_off_hook) { name = codes "ready"; timer = Some 1 }

-- after a restart a call is in `stopped` and does nothing more
abbrev pub renewing : Script
renewing = record {
  lines = codes "a" ∷ codes "b" ∷ [];
  contexts = codes "c" ∷ [];
  ephemerals = [];
  lists = [];
  signals = [];
  maps = [];
  states = ready ∷ talk both_lines ∷ stopped ∷ done ∷ [];
  start = 0;
  restart = 2;
}

-- ---- the entries: at rest in `ready`, those of `talk`, in `stopped` after a restart and after either refusal, and in `done`

abbrev pub restarting : Entry
restarting = entry_of 2 (Answered ∷ Resting ∷ []) Empty null null (Some Free)

abbrev pub ended : Entry
ended = entry_of 3 (Answered ∷ Resting ∷ []) Armed null null (Some Free)

abbrev pub renewing_entries : List Entry
renewing_entries = idle_armed ∷ sent ∷ half ∷ both ∷ restarting ∷ stopped_at_once ∷ stopped_half ∷ ended ∷ []

-- ---- the run

-- call 8 on the lines of call 7
abbrev pub next_call : Opened
next_call = record { call = 8; lines = λ i. i + 1 }

abbrev pub to_a_begun_talk : List Event
to_a_begun_talk =
    on_a_line 7 1 (event.Hook hooks.Off) ∷ note 7 1 ∷ pass 7 ∷ begin 8 7 ∷ timer 8 ∷ execute 8 1 None ∷ reply 8 1 ∷ []

pub record BegunCallTalks : Type 0 where
  pub accepted : IsScript renewing
  pub listed : All (IsEntryOf renewing) renewing_entries
  pub none_broken : NoneBroken renewing renewing_entries
  pub opening : World
  pub end : World
  pub opens : IsOpening renewing (call ∷ []) opening
  pub runs : Runs renewing to_a_begun_talk opening end
  pub joined : AreJoined end.gateway.board 1 2
  pub agent : Agent
  pub talks : end.agent 8 ≡ Some agent
  pub in_talk : agent.state ≡ 1
  pub retired : end.agent 7 ≡ None

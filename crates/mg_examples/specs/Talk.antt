-- A run in which two lines are joined, so that the promise over runs isn't empty: the script that calls line b when line a goes off hook
-- (the one of examples/basic), and four events of one call on the lines 1 and 2. A reader should check that each event says what it
-- seems to say, and that the last world joins the lines.
use Rattle.std.specs.Prelude.{ℕ, ◌+◌, List, [], ◌∷◌, Option, Some, None}
use Rattle.mg_names.specs.declared.kinds.Kind.TheVariants.{Of}
use Rattle.mg_names.specs.declared.modes.Mode.TheVariants.{SendReceive}
use Rattle.mg_names.specs.declared.strictness.Strict.TheVariants.{State as StateOfHook}
use Rattle.mg_model.specs.declared.line_events.Hook.TheVariants as hooks
use Rattle.mg_model.specs.declared.transitions.Pair.{Pair}
use Rattle.mg_model.specs.declared.line_events.LineEvent.TheVariants as event
use Rattle.mg_model.specs.LineEvents.{ListItem}
use Rattle.mg_model.specs.Numbers.{choose, the_context}
use Rattle.mg_model.specs.declared.transitions.EventItem.TheVariants.{OnHook}
use Rattle.mg_model.specs.Media.{AreJoined}
use Rattle.mg_model.specs.declared.references.ContextRef.TheVariants.{Number, MadeAt}
use Rattle.mg_model.specs.Messages.{add_line, Request, Reply, SentNote}
use Rattle.mg_model.specs.declared.events.Event.{Event}
use Rattle.mg_model.specs.World.{World, on_a_line, execute, reply, note, Opened, IsOpening, Runs}
use Rattle.mg_examples.specs.Basic.{basic}

-- ---- the call and its messages

-- call 7, with line a on line 1 and line b on line 2
abbrev pub call : Opened
call = record { call = 7; lines = λ i. i + 1 }

-- the first note to a call tells that its line a went off hook
abbrev pub off_hook : Opened → SentNote
off_hook one = record {
  call = one.call;
  association = 1;
  number = 1;
  line = one.lines 0;
  note = record { kind = Of; request = 0; method = None; symbols = [] };
}

-- its first request adds line a to a new context, armed by these events where they are set, and line b to that context
abbrev pub to_talk : Opened → Option (List ListItem) → Request
to_talk one events = record {
  call = one.call;
  association = 1;
  number = 1;
  commands =
      add_line (Number (the_context choose)) (one.lines 0) record { mode = Some SendReceive; remote = None; events = events; signals = None }
      ∷ add_line (MadeAt 0) (one.lines 1) record { mode = Some SendReceive; remote = None; events = None; signals = None } ∷ [];
}

-- both commands were done, and the context that was created has this number
abbrev pub all_done : Opened → ℕ → Reply
all_done one context = record {
  call = one.call;
  association = 1;
  number = 1;
  results =
      record { context = Some context; ephemeral = None; lines = []; ephemerals = [] }
      ∷ record { context = None; ephemeral = None; lines = []; ephemerals = [] } ∷ [];
  failure = None;
}

-- `al/on` with `strict=state`
abbrev pub hang : Option (List ListItem)
hang = Some (OnHook StateOfHook ∷ [])

abbrev pub to_a_talk : List Event
to_a_talk = on_a_line 7 1 (event.Hook hooks.Off) ∷ note 7 1 ∷ execute 7 1 None ∷ reply 7 1 ∷ []

-- these events are a run from an opening with that call alone, and its last world joins the lines 1 and 2
pub record LeadsToATalk (marks : List Pair) : Type 0 where
  pub opening : World
  pub end : World
  pub opens : IsOpening (basic marks) (call ∷ []) opening
  pub runs : Runs (basic marks) to_a_talk opening end
  pub joined : AreJoined end.gateway.board 1 2

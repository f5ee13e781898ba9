-- Which event a step of a plan means for a call. A reader should check that what is said of a world is the report's `Means` and nothing else, and
-- that a step of a call that isn't there means nothing.
use Rattle.std.specs.Prelude.{◌≡◌, ℕ, ◌==◌, Option, Some, None, option_map}
use Rattle.std.specs.List.{find}
use Rattle.mg_model.specs.declared.events.Event.{Event}
use Rattle.mg_model.specs.declared.events.Event.TheVariants.{Restart}
use Rattle.mg_model.specs.declared.line_events.Hook.TheVariants.{On, Off}
use Rattle.mg_model.specs.declared.line_events.LineEvent.{LineEvent}
use Rattle.mg_model.specs.declared.line_events.LineEvent.TheVariants.{Hook, Flash, Digit, Pause, SignalEnd}
use Rattle.mg_model.specs.declared.plans.PlanStep.{PlanStep}
use Rattle.mg_model.specs.declared.plans.PlanStep.TheVariants.{GoesOff, GoesOn, Flashes, Dials, Pauses, Ends, Executes, TakesReply, Passes, TakesNote, TimesOut, Hears, Begins, Restarts}
use Rattle.mg_model.specs.Agent.{Agent}
use Rattle.mg_model.specs.Messages.{Request, Reply, SentNote}
use Rattle.mg_model.specs.Reports.{Means, is_waiting, refusal_at}
use Rattle.mg_model.specs.World.{World, on_a_line, execute, reply, pass, note, timer, begin, hear}
use Rattle.agent.specs.AgentValue.{agent_of}
use Rattle.shards.specs.Messages.{AreNumberedFrom, note_numbers, reply_for}
use Rattle.shards.specs.CallTable.{record_in}
use Rattle.shards.specs.Shards.{IsWorldOf, ShardValue}
use Rattle.shards.specs.Standings.{Stands}
use Rattle.shards.specs.CallRecords.{IsSameRecord, IsTied, request_in}
use Rattle.shards.specs.declared.call_record.CallRecord.{CallRecord}
use Rattle.shards.specs.declared.meant.Meant.{Meant}

-- ---- of a record

-- an event of a line of the script
abbrev pub on_record : CallRecord → (line : ℕ) → LineEvent → Event
on_record s line event = on_a_line (agent_of s.agent).call ((agent_of s.agent).lines line) event

-- the note of this number, or the oldest that waits for the agent
abbrev pub note_in : CallRecord → Option ℕ → Option SentNote
note_in s None = find (is_waiting (agent_of s.agent)) s.messages.sent.notes
note_in s (Some n) = find (λ (m : SentNote). m.number == n) s.messages.sent.notes

-- the event that a step means for the call of a record, where the gateway is in this association and the next call to begin has this number
abbrev pub event_in : CallRecord → (association next : ℕ) → PlanStep → Option Event
event_in s association next (GoesOff l) = Some (on_record s l (Hook Off))
event_in s association next (GoesOn l) = Some (on_record s l (Hook On))
event_in s association next (Flashes l) = Some (on_record s l Flash)
event_in s association next (Dials l symbol) = Some (on_record s l (Digit symbol))
event_in s association next (Pauses l) = Some (on_record s l Pause)
event_in s association next (Ends l signal) = Some (on_record s l (SignalEnd signal))
event_in s association next (Executes which place) =
    option_map (λ (r : Request). execute (agent_of s.agent).call r.number (refusal_at place)) (request_in s which)
event_in s association next (TakesReply which) = option_map (λ (r : Reply). reply (agent_of s.agent).call r.number) (reply_for s.messages.sent which)
event_in s association next Passes = Some (pass (agent_of s.agent).call)
event_in s association next (TakesNote which) = option_map (λ (n : SentNote). note (agent_of s.agent).call n.number) (note_in s which)
event_in s association next TimesOut = Some (timer (agent_of s.agent).call)
event_in s association next Hears = Some (hear (agent_of s.agent).call association)
event_in s association next Begins = Some (begin next (agent_of s.agent).call)
event_in s association next Restarts = Some Restart

-- and that of a call that may have no record: then it means nothing
abbrev pub event_of_entry : Option CallRecord → (association next : ℕ) → PlanStep → Option Event
event_of_entry None association next step = None
event_of_entry (Some s) association next step = event_in s association next step

-- the record, if there is one, is tied
abbrev pub IsTiedEntry : Option CallRecord → Type 0
IsTiedEntry entry = (s : CallRecord) → entry ≡ Some s → IsTied s

-- its notes are numbered from 1
abbrev pub HasNumberedNotes : Option CallRecord → Type 0
HasNumberedNotes entry = (s : CallRecord) → entry ≡ Some s → AreNumberedFrom 1 (note_numbers s.messages.sent.notes)

-- it stays, but for how many notes are counted as settled
abbrev pub IsSameEntry : Option CallRecord → Option CallRecord → Type 0
IsSameEntry None new = new ≡ None
IsSameEntry (Some s) new = (t : CallRecord) × (new ≡ Some t) × IsSameRecord s t

-- ---- of a world

-- a step means this event for the agent of a call, or no event
abbrev pub MeansIn : World → Option Agent → (next : ℕ) → PlanStep → Option Event → Type 0
MeansIn w None next step told = told ≡ None
MeansIn w (Some a) next step (Some event) = Means w a next step event
MeansIn w (Some a) next step None = (event : Event) → Means w a next step event → ⊥

-- whatever world a shard shows, the step means this event in it for the call, or no event
abbrev pub IsMeant : ShardValue → (call next : ℕ) → PlanStep → Option Event → Type 0
IsMeant v call next step told = (w : World) → IsWorldOf v w → MeansIn w (w.agent call) next step told

-- ---- with where the call is

-- the event that was told; none where the call isn't open
abbrev pub event_told : Option Meant → Option Event
event_told None = None
event_told (Some told) = told.event

-- what is told by the record of a call that may have none
abbrev pub IsToldOf : Option CallRecord → (association next : ℕ) → PlanStep → Option Meant → Type 0
IsToldOf None association next step None = Unit {0}
IsToldOf None association next step (Some told) = ⊥
IsToldOf (Some s) association next step None = ⊥
IsToldOf (Some s) association next step (Some told) =
    Stands (agent_of s.agent) told.standing × (told.event ≡ event_in s association next step) × (told.events ≡ s.events)

-- the shard counts so many events of a call that is open there
pub record IsCountedAs (v : ShardValue) (call events : ℕ) : Type 0 where
  pub call_record : CallRecord
  pub held : record_in v.call_table call ≡ Some call_record
  pub counted : events ≡ call_record.events

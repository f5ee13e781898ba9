-- A step of a shard: an event of a call, at its record and to the call that is handed in. A reader should check that both go on by the event alone, that a
-- step is refused as not enabled only where the event can't happen, to the shard or to the call that is handed in, or where the shard doesn't hold that
-- call, as behind only where it could happen, and that whatever is refused leaves both as they were. This profile's own.
use Rattle.std.specs.Prelude.{◌≡◌, ℕ, Bool, true, false, [], ◌∷◌, length, Option, Some, None, Result, Ok, Err, ◌⊎◌}
use Rattle.mg_model.specs.declared.events.CallEvent.{CallEvent}
use Rattle.mg_model.specs.declared.events.CallEvent.TheVariants as to_call
use Rattle.mg_model.specs.declared.events.Event.{Event}
use Rattle.mg_model.specs.declared.events.Event.TheVariants.{OfCall, Restart}
use Rattle.mg_model.specs.Agent.{Agent, begun, heard, noted, passed, replied, timed}
use Rattle.mg_model.specs.Messages.{Reply, SentNote}
use Rattle.mg_model.specs.Tables.{line_places}
use Rattle.mg_model.specs.World.{World, IsNoteOf, IsReplyOf, Occurs}
use Rattle.agent.specs.AgentValue.{agent_of}
use Rattle.agent.specs.CallValue.{CallValue, Kind, rests, waits, has_ended}
use Rattle.agent.specs.Calls.{IsLonger, IsNext, IsRetired, value_of, variant_of}
use Rattle.agent.specs.declared.call.Next.{Next}
use Rattle.agent.specs.declared.refusal.Refusal.{Refusal}
use Rattle.agent.specs.declared.refusal.Refusal.TheVariants.{NotEnabled, Behind, NoMemory}
use Rattle.shards.specs.CouldHappen.{CouldHappen}
use Rattle.shards.specs.Shards.{HasHappened, IsUnchanged, IsWorldOf, ShardValue}
use Rattle.gateway.specs.GatewayValue.{GatewayValue}
use Rattle.shards.specs.CallTable.{ExecutesIn, HappensIn, record_in}
use Rattle.agent.specs.Advancing.{IsSameCall}
use Rattle.shards.specs.declared.call_record.CallRecord.{CallRecord}
use Rattle.shards.specs.declared.stepped.Stepped.{Stepped}
use Rattle.shards.specs.declared.stepped.Stepped.TheVariants.{Done, Begun}

-- ---- the call that is handed in

-- what a call of a kind has steps for: one that waits takes a reply or goes on, one that rests in a state that isn't an end takes a note or its timer, and
-- on the lines of one that has ended another begins. What happens at the gateway, and an association that is heard of, is of each
abbrev pub is_waiting : Kind → Bool
is_waiting waits = true
is_waiting rests = false
is_waiting has_ended = false

abbrev pub is_at_rest : Kind → Bool
is_at_rest waits = false
is_at_rest rests = true
is_at_rest has_ended = false

abbrev pub is_ended : Kind → Bool
is_ended waits = false
is_ended rests = false
is_ended has_ended = true

abbrev pub has_step : CallEvent → Kind → Bool
has_step (to_call.OnLine line happens) kind = true
has_step (to_call.Execute number chosen) kind = true
has_step (to_call.Reply number) kind = is_waiting kind
has_step to_call.Pass kind = is_waiting kind
has_step (to_call.Note number) kind = is_at_rest kind
has_step to_call.Timer kind = is_at_rest kind
has_step (to_call.Begin old) kind = is_ended kind
has_step (to_call.Hear association) kind = true

-- where its agent goes by an event of its own, by the messages of a world
abbrev pub Goes : World → CallValue → ℕ → CallEvent → Agent → Type 0
Goes w c call (to_call.OnLine line happens) after = (call ≡ c.agent.call) × (after ≡ agent_of c.agent)
Goes w c call (to_call.Execute number chosen) after = (call ≡ c.agent.call) × (after ≡ agent_of c.agent)
Goes w c call (to_call.Reply number) after =
    (call ≡ c.agent.call) × ((answer : Reply) × IsReplyOf w call number answer × (replied c.script (agent_of c.agent) answer ≡ Some after))
Goes w c call to_call.Pass after = (call ≡ c.agent.call) × (passed c.script (agent_of c.agent) ≡ Some after)
Goes w c call (to_call.Note number) after =
    (call ≡ c.agent.call) × ((note : SentNote) × IsNoteOf w call number note × (noted c.script (agent_of c.agent) (line_places c.script) note ≡ Some after))
Goes w c call to_call.Timer after = (call ≡ c.agent.call) × (timed c.script (agent_of c.agent) ≡ Some after)
Goes w c call (to_call.Hear association) after = (call ≡ c.agent.call) × (heard c.script (agent_of c.agent) association.0 ≡ Some after)
Goes w c call (to_call.Begin old) after = (old.0 ≡ c.agent.call) × (after ≡ begun c.script call (agent_of c.agent))

-- a restart is no call's
abbrev pub ValueGoes : World → Next → Event → Agent → Type 0
ValueGoes w next (OfCall call happens) after = (has_step happens (variant_of next) ≡ true) × Goes w (value_of next) call.0 happens after
ValueGoes w next Restart after = ⊥

-- the same call, but for room in its transcript
pub record IsSameNext (old new : Next) : Type 0 where
  pub kind : variant_of new ≡ variant_of old
  pub call : IsSameCall (value_of old) (value_of new)

-- ---- a step that is taken

-- the number of the call that is handed in
abbrev pub call_in : Next → ℕ
call_in next = (value_of next).agent.call

abbrev pub is_beginning : Event → Bool
is_beginning (OfCall call (to_call.Begin old)) = true
is_beginning event = false

-- in whatever world was shown, the call goes where its event leads
abbrev pub GoesOn : ShardValue → Next → Event → Next → Type 0
GoesOn v next event after = (w : World) → IsWorldOf v w → ValueGoes w next event (agent_of (value_of after).agent)

-- the event happens to the shard and to the call, and is the last of its transcript
pub record HasStepped (old new : ShardValue) (next after : Next) (event : Event) : Type 0 where
  pub shard : HasHappened old new event
  pub kind : IsNext after
  pub goes : GoesOn old next event after
  pub longer : IsLonger event (value_of next) (value_of after)
  pub goes_on : is_beginning event ≡ false

-- a call begins on the lines of the one that is handed in, which is retired; its beginning is all that happened to it
pub record HasBegun (old new : ShardValue) (next after : Next) (event : Event) : Type 0 where
  pub shard : HasHappened old new event
  pub kind : IsNext after
  pub goes : GoesOn old next event after
  pub script : (value_of after).script ≡ (value_of next).script
  pub transcript : (value_of after).transcript ≡ event ∷ []
  pub begins : is_beginning event ≡ true

abbrev pub IsTakenStep : ShardValue → ShardValue → Next → Next → Event → Stepped → Type 0
IsTakenStep old new next after event Done = HasStepped old new next after event
IsTakenStep old new next after event (Begun retired) = HasBegun old new next after event × IsRetired (value_of next) retired

-- ---- a step that is refused

-- the event can't happen both in the world that the shard shows and to the call that is handed in
abbrev pub CannotOccur : ShardValue → Next → Event → Type 0
CannotOccur v next event = (w : World) → IsWorldOf v w → (after : World) (a : Agent) → Occurs v.script w event after → ValueGoes w next event a → ⊥

-- it can't, or the shard doesn't hold the call
abbrev pub IsNotEnabled : ShardValue → Next → Event → Type 0
IsNotEnabled v next event = CannotOccur v next event ⊎ (record_in v.call_table (call_in next) ≡ None)

-- whether it could happen
abbrev pub IsPossible : ShardValue → Next → Event → Bool → Type 0
IsPossible v next event true = CouldHappen v next event
IsPossible v next event false = IsNotEnabled v next event

-- the record of the call counts so many events, and the transcript has another number of them
pub record IsBehind (v : ShardValue) (next : Next) (slot_count : ℕ) : Type 0 where
  pub call_record : CallRecord
  pub held : record_in v.call_table (call_in next) ≡ Some call_record
  pub counted : slot_count ≡ call_record.events
  pub differs : length (value_of next).transcript ≡ slot_count → ⊥

abbrev pub IsRefusedStep : ShardValue → Next → Event → Refusal → Type 0
IsRefusedStep v next event NotEnabled = IsNotEnabled v next event
IsRefusedStep v next event (Behind slot_count) = IsBehind v next slot_count × CouldHappen v next event
IsRefusedStep v next event NoMemory = Unit {0}

-- ---- a step

-- the record of the call counts as many events as its transcript has: no other step is taken
pub record IsUpToDate (v : ShardValue) (next : Next) : Type 0 where
  pub call_record : CallRecord
  pub held : record_in v.call_table (call_in next) ≡ Some call_record
  pub agrees : length (value_of next).transcript ≡ call_record.events

abbrev pub IsStep : ShardValue → ShardValue → Next → Next → Event → Result Stepped Refusal → Type 0
IsStep old new next after event (Ok stepped) = IsTakenStep old new next after event stepped
IsStep old new next after event (Err why) = IsRefusedStep old next event why × (IsUnchanged old new × IsSameNext next after)

-- ---- how a step is taken

-- an event at the agent of a call
abbrev pub IsAtAgent : CallEvent → Type 0
IsAtAgent (to_call.OnLine line happens) = ⊥
IsAtAgent (to_call.Execute number chosen) = ⊥
IsAtAgent (to_call.Begin old) = ⊥
IsAtAgent event = Unit {0}

-- an event at the gateway, in the entry of a call
abbrev pub AtGateway : GatewayValue → GatewayValue → ℕ → CallEvent → Option CallRecord → Option CallRecord → Result (Unit {0}) Refusal → Type 0
AtGateway old new call (to_call.OnLine line happens) entry after told = HappensIn old new call line.0 happens entry after told
AtGateway old new call (to_call.Execute number chosen) entry after told = ExecutesIn old new call number chosen entry after told
AtGateway old new call event entry after told = (told ≡ Err NotEnabled) × (new ≡ old) × (after ≡ entry)

-- ---- whether the shard holds a call, and is where it is

abbrev pub IsHeld : ShardValue → Next → Event → Result (Unit {0}) Refusal → Type 0
IsHeld v next event (Ok _) = IsUpToDate v next
IsHeld v next event (Err NotEnabled) = IsNotEnabled v next event
IsHeld v next event (Err (Behind slot_count)) = IsBehind v next slot_count × CouldHappen v next event
IsHeld v next event (Err NoMemory) = ⊥

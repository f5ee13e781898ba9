-- Whether an event of a call can happen in a shard, whatever call is handed in. A reader should check that what can't happen happens in no world that the
-- shard shows, and each kind of event that could against what is asked of it. This profile's own.
use Rattle.std.specs.Prelude.{◌≡◌, ◌+◌, ◌<◌, ⊤, ℕ, Bool, true, false, Option, Some, None, is_some, length, Ok, ◌⊎◌}
use Rattle.mg_model.specs.declared.events.CallEvent.{CallEvent}
use Rattle.mg_model.specs.declared.events.CallEvent.TheVariants as to_call
use Rattle.mg_model.specs.declared.events.Event.{Event}
use Rattle.mg_model.specs.declared.events.Event.TheVariants.{OfCall}
use Rattle.mg_model.specs.Messages.{Request}
use Rattle.mg_model.specs.Numbers.{last_number}
use Rattle.mg_model.specs.Script.{Script}
use Rattle.mg_model.specs.World.{IsRequestOf, World, Occurs}
use Rattle.gateway.specs.Beginnings.{CanBegin}
use Rattle.agent.specs.AgentValue.{agent_of}
use Rattle.agent.specs.Preparing.{stepped_by}
use Rattle.agent.specs.declared.delivered.Delivery.{Delivery}
use Rattle.shards.specs.Beginnings.{has_ended}
use Rattle.shards.specs.CouldHappen.{CouldExecute, CouldHappenOn}
use Rattle.shards.specs.Shards.{IsWorldOf, ShardValue}
use Rattle.shards.specs.Shows.{is_told}
use Rattle.shards.specs.CallRecords.{IsDelivered}
use Rattle.shards.specs.CallTable.{record_in}
use Rattle.shards.specs.declared.call_record.CallRecord.{CallRecord}

-- ---- what can't

-- in no world that the shard shows
abbrev pub NeverOccurs : ShardValue → Event → Type 0
NeverOccurs v event = (w : World) → IsWorldOf v w → (after : World) → Occurs v.script w event after → ⊥

-- a request that was sent and can't reach the gateway may raise more notes than there are numbers left for
abbrev pub HasNoRoomFor : ShardValue → (call : ℕ) → CallEvent → Type 0
HasNoRoomFor v call (to_call.Execute number chosen) =
    (w : World) → IsWorldOf v w → (request : Request) → IsRequestOf w call number request
    → last_number < (w.gateway.link call).notes + length request.commands
HasNoRoomFor v call event = ⊤

-- ---- what could

-- at the agent of a record: what the event brings was sent, and the agent can take it
pub record IsTakenByRecord (script : Script) (event : CallEvent) (s : CallRecord) : Type 0 where
  pub brought : Delivery
  pub delivered : IsDelivered s.messages.sent event (Some brought)
  pub takes : is_some (stepped_by script (agent_of s.agent) brought) ≡ true

-- nothing of that kind was sent, or the agent can't take it
abbrev pub IsNotTakenByRecord : Script → CallEvent → CallRecord → Type 0
IsNotTakenByRecord script event s =
    IsDelivered s.messages.sent event None
    ⊎ ((brought : Delivery) × (IsDelivered s.messages.sent event (Some brought) × (stepped_by script (agent_of s.agent) brought ≡ None)))

abbrev pub IsTakeable : Script → CallEvent → CallRecord → Bool → Type 0
IsTakeable script event s true = IsTakenByRecord script event s
IsTakeable script event s false = IsNotTakenByRecord script event s

-- the event of a call, of which this is the record; of a beginning it is that of the call on whose lines the other begins
abbrev pub CouldOccurTo : ShardValue → CallRecord → (call : ℕ) → CallEvent → Type 0
CouldOccurTo v s call (to_call.OnLine line happens) = CouldHappenOn v.gateway call line.0 happens
CouldOccurTo v s call (to_call.Execute number chosen) = CouldExecute v.gateway number s
CouldOccurTo v s call (to_call.Begin old) =
    (has_ended v.script (agent_of s.agent) v.gateway.association ≡ true) × CanBegin v.gateway old.0 call (Ok tt)
CouldOccurTo v s call event = (is_told v.gateway.association event ≡ true) × IsTakenByRecord v.script event s

-- the call whose record it is
abbrev pub record_call : (call : ℕ) → CallEvent → ℕ
record_call call (to_call.Begin old) = old.0
record_call call event = call

pub record CouldOccur (v : ShardValue) (call : ℕ) (event : CallEvent) : Type 0 where
  pub call_record : CallRecord
  pub held : record_in v.call_table (record_call call event) ≡ Some call_record
  pub could : CouldOccurTo v call_record call event

-- ---- the answer

abbrev pub IsOccurrence : ShardValue → (call : ℕ) → CallEvent → Bool → Type 0
IsOccurrence v call event true = CouldOccur v call event
IsOccurrence v call event false = NeverOccurs v (OfCall (record { 0 = call }) event) × HasNoRoomFor v call event

-- nothing where the call isn't open there
abbrev pub TellsOccurrence : ShardValue → (call : ℕ) → CallEvent → Option Bool → Type 0
TellsOccurrence v call event (Some can) = IsOccurrence v call event can
TellsOccurrence v call event None = record_in v.call_table (record_call call event) ≡ None

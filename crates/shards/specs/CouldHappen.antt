-- When an event could happen to a shard and to the call that is handed in, as both are. A reader should check each kind of event against what is refused of
-- it as not enabled. This profile's own.
use Rattle.std.specs.Prelude.{◌≡◌, ℕ, Bool, true, false, Option, Some, None, is_some, Ok, ◌⊎◌}
use Rattle.mg_model.specs.declared.events.CallEvent.{CallEvent}
use Rattle.mg_model.specs.declared.events.CallEvent.TheVariants as to_call
use Rattle.mg_model.specs.declared.events.Event.{Event}
use Rattle.mg_model.specs.declared.events.Event.TheVariants.{OfCall, Restart}
use Rattle.mg_model.specs.declared.line_events.LineEvent.{LineEvent}
use Rattle.mg_model.specs.Messages.{Request}
use Rattle.mg_model.specs.Script.{Script}
use Rattle.gateway.specs.Answers.{CanExecute, CanOccur, HasNoRoom}
use Rattle.gateway.specs.Beginnings.{CanBegin}
use Rattle.gateway.specs.GatewayValue.{GatewayValue, gateway_of, holder_in}
use Rattle.agent.specs.Advancing.{advancing}
use Rattle.agent.specs.AgentValue.{agent_of}
use Rattle.agent.specs.CallValue.{has_ended as ended_kind}
use Rattle.agent.specs.Calls.{value_of, variant_of}
use Rattle.agent.specs.Preparing.{stepped_by}
use Rattle.agent.specs.declared.delivered.Delivery.{Delivery}
use Rattle.agent.specs.declared.call.Next.{Next}
use Rattle.shards.specs.Beginnings.{has_ended}
use Rattle.shards.specs.Shards.{ShardValue}
use Rattle.shards.specs.Shows.{is_told}
use Rattle.shards.specs.CallRecords.{CannotExecute, CannotHappenOn, CannotStep, IsDelivered, request_in}
use Rattle.shards.specs.CallTable.{record_in}
use Rattle.shards.specs.declared.call_record.CallRecord.{CallRecord}

-- ---- each kind of event

-- of a line: the call holds the line, and the event can happen there
pub record CouldHappenOn (g : GatewayValue) (call line : ℕ) (event : LineEvent) : Type 0 where
  pub held : holder_in g line ≡ Some call
  pub can : CanOccur g line event

-- a request that reaches the gateway: it was sent, and the numbers of notes have room for it
pub record CouldExecute (g : GatewayValue) (number : ℕ) (s : CallRecord) : Type 0 where
  pub request : Request
  pub sent : request_in s (Some number) ≡ Some request
  pub room : HasNoRoom (gateway_of g) request → ⊥

-- at the agent: what it brings was sent, and the record's agent and the call that is handed in can both take it
pub record CouldStep (script : Script) (next : Next) (event : CallEvent) (s : CallRecord) : Type 0 where
  pub brought : Delivery
  pub delivered : IsDelivered s.messages.sent event (Some brought)
  pub by_record : is_some (stepped_by script (agent_of s.agent) brought) ≡ true
  pub by_call : is_some (advancing next brought) ≡ true

-- a beginning: the call that is handed in has ended, the record's has in the gateway's association, and the gateway lets the new one begin
pub record CouldBegin (script : Script) (g : GatewayValue) (next : Next) (old new : ℕ) (s : CallRecord) : Type 0 where
  pub kind : variant_of next ≡ ended_kind
  pub ended : has_ended script (agent_of s.agent) g.association ≡ true
  pub may : CanBegin g old new (Ok tt)

-- ---- an event

-- it is one of the call that is handed in, of which this is the record, and could happen
abbrev pub CouldHappenTo : ShardValue → Next → CallRecord → Event → Type 0
CouldHappenTo v next s (OfCall call (to_call.OnLine line happens)) =
    (call.0 ≡ (value_of next).agent.call) × CouldHappenOn v.gateway call.0 line.0 happens
CouldHappenTo v next s (OfCall call (to_call.Execute number chosen)) = (call.0 ≡ (value_of next).agent.call) × CouldExecute v.gateway number s
CouldHappenTo v next s (OfCall call (to_call.Begin old)) = (old.0 ≡ (value_of next).agent.call) × CouldBegin v.script v.gateway next old.0 call.0 s
CouldHappenTo v next s (OfCall call event) =
    (call.0 ≡ (value_of next).agent.call) × (is_told v.gateway.association event ≡ true) × CouldStep v.script next event s
CouldHappenTo v next s Restart = ⊥

pub record CouldHappen (v : ShardValue) (next : Next) (event : Event) : Type 0 where
  pub call_record : CallRecord
  pub held : record_in v.call_table (value_of next).agent.call ≡ Some call_record
  pub could : CouldHappenTo v next call_record event

-- ---- how it is asked

-- the record of the call that is handed in, where that is the call of the event
abbrev pub HasOwnRecord : ShardValue → Next → (call : ℕ) → Option CallRecord → Type 0
HasOwnRecord v next call (Some s) = (call ≡ (value_of next).agent.call) × (record_in v.call_table call ≡ Some s)
HasOwnRecord v next call None = (call ≡ (value_of next).agent.call → ⊥) ⊎ (record_in v.call_table (value_of next).agent.call ≡ None)

-- of a line
abbrev pub IsPossibleOn : GatewayValue → (call line : ℕ) → LineEvent → Bool → Type 0
IsPossibleOn g call line event true = CouldHappenOn g call line event
IsPossibleOn g call line event false = CannotHappenOn g call line event

-- a request
pub record IsExecutable (g : GatewayValue) (call number : ℕ) (s : CallRecord) : Type 0 where
  pub request : Request
  pub sent : request_in s (Some number) ≡ Some request
  pub can : CanExecute g call request true

abbrev pub IsPossibleRequest : GatewayValue → (call number : ℕ) → CallRecord → Bool → Type 0
IsPossibleRequest g call number s true = IsExecutable g call number s
IsPossibleRequest g call number s false = CannotExecute g number s

-- at the agent
abbrev pub IsPossibleStep : Script → Next → CallEvent → CallRecord → Bool → Type 0
IsPossibleStep script next event s true = CouldStep script next event s
IsPossibleStep script next event s false = CannotStep script next event s

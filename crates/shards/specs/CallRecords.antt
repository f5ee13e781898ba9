-- What a shard keeps of a call, and what becomes of it and of the gateway at an event. A reader should check that what is refused leaves both as
-- they were, but for memory that was made, and that every message that is sent is kept.
use Rattle.std.specs.Prelude.{◌≡◌, ℕ, ◌+◌, ◌≤◌, ◌==◌, Bool, true, false, not, ◌&&◌, nat_le, List, ◌++◌, length, take, Contains, Option, Some, None, is_some, Result, Ok, Err, ◌⊎◌}
use Rattle.std.specs.List.{All, find}
use Rattle.std.proofs.Common.{reverse}
use Rattle.mg_model.specs.declared.failures.ChosenRefusal.{ChosenRefusal}
use Rattle.mg_model.specs.declared.line_events.LineEvent.{LineEvent}
use Rattle.mg_model.specs.Agent.{Agent, inbox_of}
use Rattle.mg_model.specs.Delivery.{arrival, is_new}
use Rattle.mg_model.specs.Gateway.{Happens}
use Rattle.mg_model.specs.Messages.{Request, SentNote}
use Rattle.mg_model.specs.Script.{Script}
use Rattle.mg_model.specs.World.{sent_in}
use Rattle.gateway.specs.declared.answer.Answer.{Answer}
use Rattle.gateway.specs.declared.answer.Answer.TheVariants as answer
use Rattle.gateway.specs.Answers.{IsAnswered, IsSame, SameOpen, HasNoRoom, CannotOccur, note_listed}
use Rattle.gateway.specs.GatewayValue.{GatewayValue, gateway_of, holder_in}
use Rattle.agent.specs.AgentValue.{agent_of}
use Rattle.agent.specs.declared.refusal.Refusal.{Refusal}
use Rattle.agent.specs.declared.refusal.Refusal.TheVariants.{NotEnabled, Behind, NoMemory}
use Rattle.agent.specs.Preparing.{stepped_by}
use Rattle.agent.specs.Steps.{outstanding}
use Rattle.agent.specs.declared.call.Next.{Next}
use Rattle.agent.specs.declared.delivered.Delivery.{Delivery}
use Rattle.agent.specs.declared.delivered.Delivery.TheVariants as delivery
use Rattle.mg_model.specs.declared.events.CallEvent.{CallEvent}
use Rattle.mg_model.specs.declared.events.CallEvent.TheVariants as to_call
use Rattle.shards.specs.Messages.{AreNumberedFrom, Messages, fits, answering, raising, reply_for, request_numbers, sending}
use Rattle.agent.specs.Advancing.{IsAdvanced, advancing}
use Rattle.shards.specs.declared.call_record.CallRecord.{CallRecord}

-- ---- what was sent

-- all requests of the call, the latest first
abbrev pub requests_of : CallRecord → List Request
requests_of s = sent_in (agent_of s.agent).phase ++ reverse s.messages.sent.requests

-- the request with this number, or the latest
abbrev pub request_in : CallRecord → Option ℕ → Option Request
request_in s which = find (λ (r : Request). fits which r.number) (requests_of s)

-- ---- notes that an agent never waits for again

-- a note of its association, or of an older one, that isn't new to it
abbrev pub is_settled : Agent → SentNote → Bool
is_settled a n = nat_le n.association a.association && not (is_new (arrival (inbox_of a) n.association n.number))

-- so many of the notes, from the first on, are such
pub record AreSettled (a : Agent) (notes : List SentNote) (count : ℕ) : Type 0 where
  pub sent : count ≤ length notes
  pub each : All (λ (n : SentNote). is_settled a n ≡ true) (take count notes)

-- ---- a record as it stands

-- the requests that were sent are numbered on, each has a place for its reply, the next one has the number after them, and the notes that
-- are counted as settled are
pub record IsTied (s : CallRecord) : Type 0 where
  pub numbered : AreNumberedFrom s.messages.sent.first (request_numbers s.messages.sent.requests)
  pub places : length s.messages.sent.replies ≡ length s.messages.sent.requests + length (sent_in (agent_of s.agent).phase)
  pub awaited : (r : Request) → Contains (sent_in (agent_of s.agent).phase) r
      → r.number ≡ s.messages.sent.first + length s.messages.sent.requests
  pub next : (agent_of s.agent).next ≡ s.messages.sent.first + length s.messages.sent.replies
  pub settled : AreSettled (agent_of s.agent) s.messages.sent.notes s.settled

-- ---- a record that is as it was

-- but for memory that was made, and for how many notes are counted as settled, where they are
pub record IsSameRecord (s t : CallRecord) : Type 0 where
  pub agent : agent_of t.agent ≡ agent_of s.agent
  pub sent : t.messages.sent ≡ s.messages.sent
  pub events : t.events ≡ s.events
  pub settled : (t.settled ≡ s.settled) ⊎ AreSettled (agent_of s.agent) s.messages.sent.notes t.settled

-- the agent stays, and there is one event more
pub record IsCounted (s t : CallRecord) (all : Messages) : Type 0 where
  pub agent : t.agent ≡ s.agent
  pub sent : t.messages.sent ≡ all
  pub events : t.events ≡ s.events + 1
  pub settled : t.settled ≡ s.settled

-- ---- a request reaches the gateway

-- the messages of the call after the gateway's answer
abbrev pub after_answer : Messages → Answer → Messages
after_answer m (answer.Executed reply notes) = raising (answering m reply) notes.items
after_answer m (answer.Kept reply) = answering m reply
after_answer m other = m

-- the gateway's answer is an event
abbrev pub is_event : Answer → Bool
is_event (answer.Executed reply notes) = true
is_event (answer.Kept reply) = true
is_event answer.Discarded = true
is_event answer.CannotHappen = false
is_event answer.NoMemory = false

-- the request with a number reaches the gateway, which answers
pub record Executes (old new : GatewayValue) (call number : ℕ) (refusal : Option ChosenRefusal) (s t : CallRecord) : Type 0 where
  pub request : Request
  pub told : Answer
  pub sent : request_in s (Some number) ≡ Some request
  pub answered : IsAnswered old call request refusal new told
  pub happens : is_event told ≡ true
  pub counted : IsCounted s t (after_answer s.messages.sent told)

-- there is no such request, or the numbers of notes could run out
abbrev pub CannotExecute : GatewayValue → ℕ → CallRecord → Type 0
CannotExecute old number s =
    (request_in s (Some number) ≡ None)
    ⊎ ((request : Request) × (request_in s (Some number) ≡ Some request) × HasNoRoom (gateway_of old) request)

abbrev pub IsExecuted : GatewayValue → GatewayValue → (call number : ℕ) → Option ChosenRefusal → CallRecord → CallRecord → Result (Unit {0}) Refusal → Type 0
IsExecuted old new call number refusal s t (Ok _) = Executes old new call number refusal s t
IsExecuted old new call number refusal s t (Err NotEnabled) = CannotExecute old number s × IsSame old new × IsSameRecord s t
IsExecuted old new call number refusal s t (Err NoMemory) = IsSame old new × IsSameRecord s t
IsExecuted old new call number refusal s t (Err (Behind slot_count)) = ⊥

-- ---- an event of a line

pub record HappensOn (old new : GatewayValue) (call line : ℕ) (event : LineEvent) (s t : CallRecord) : Type 0 where
  pub note : Option SentNote
  pub held : holder_in old line ≡ Some call
  pub happens : Happens (gateway_of old) line event (gateway_of new) (note_listed note)
  pub open_calls : SameOpen old new
  pub counted : IsCounted s t (raising s.messages.sent (note_listed note))

-- the call doesn't hold the line, or the event can't happen on it
abbrev pub CannotHappenOn : GatewayValue → (call line : ℕ) → LineEvent → Type 0
CannotHappenOn old call line event = (holder_in old line ≡ Some call → ⊥) ⊎ CannotOccur old line event

abbrev pub IsHappenedOn : GatewayValue → GatewayValue → (call line : ℕ) → LineEvent → CallRecord → CallRecord → Result (Unit {0}) Refusal → Type 0
IsHappenedOn old new call line event s t (Ok _) = HappensOn old new call line event s t
IsHappenedOn old new call line event s t (Err NotEnabled) = CannotHappenOn old call line event × IsSame old new × IsSameRecord s t
IsHappenedOn old new call line event s t (Err NoMemory) = IsSame old new × IsSameRecord s t
IsHappenedOn old new call line event s t (Err (Behind slot_count)) = ⊥

-- ---- something reaches the agent

-- what an event of a call brings its agent, of what was sent; an event that brings it nothing is none of its steps
abbrev pub IsDelivered : Messages → CallEvent → Option Delivery → Type 0
IsDelivered m (to_call.Reply number) (Some (delivery.Reply answer)) = reply_for m (Some number) ≡ Some answer.now
IsDelivered m (to_call.Reply number) None = reply_for m (Some number) ≡ None
IsDelivered m to_call.Pass (Some delivery.Pass) = Unit {0}
IsDelivered m (to_call.Note number) (Some (delivery.Note note)) = find (λ (n : SentNote). n.number == number) m.notes ≡ Some note.now
IsDelivered m (to_call.Note number) None = find (λ (n : SentNote). n.number == number) m.notes ≡ None
IsDelivered m to_call.Timer (Some delivery.Timer) = Unit {0}
IsDelivered m (to_call.Hear association) (Some (delivery.Hear told)) = told ≡ association
IsDelivered m (to_call.OnLine line happens) None = Unit {0}
IsDelivered m (to_call.Execute number chosen) None = Unit {0}
IsDelivered m (to_call.Begin old) None = Unit {0}
IsDelivered m event brought = ⊥

-- the step of the record and that of the call that is handed in
pub record Steps (script : Script) (old : Next) (event : CallEvent) (s t : CallRecord) (new : Next) : Type 0 where
  pub brought : Delivery
  pub delivered : IsDelivered s.messages.sent event (Some brought)
  pub steps : stepped_by script (agent_of s.agent) brought ≡ Some (agent_of t.agent)
  pub sent : t.messages.sent ≡ sending s.messages.sent (outstanding (agent_of s.agent).phase) (is_some (outstanding (agent_of t.agent).phase))
  pub events : t.events ≡ s.events + 1
  pub settled : t.settled ≡ s.settled
  pub advanced : IsAdvanced old brought new (Ok tt)

-- nothing of that kind was sent, or one of the two can't take the step
abbrev pub CannotStep : Script → Next → CallEvent → CallRecord → Type 0
CannotStep script old event s =
    IsDelivered s.messages.sent event None
    ⊎ ((brought : Delivery) × IsDelivered s.messages.sent event (Some brought)
    × ((stepped_by script (agent_of s.agent) brought ≡ None) ⊎ (advancing old brought ≡ None)))

abbrev pub IsStepped : Script → Next → CallEvent → CallRecord → CallRecord → Next → Result (Unit {0}) Refusal → Type 0
IsStepped script old event s t new (Ok _) = Steps script old event s t new
IsStepped script old event s t new (Err NotEnabled) = CannotStep script old event s × IsSameRecord s t × (new ≡ old)
IsStepped script old event s t new (Err NoMemory) = IsSameRecord s t × (new ≡ old)
IsStepped script old event s t new (Err (Behind slot_count)) = ⊥

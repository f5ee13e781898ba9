-- Why a step of a plan is idle. A reader should check that each reason is a fact of the call, of its gateway and of what was sent, in whatever world the
-- shard shows before the step, and that each says that those of its event which stand before it aren't so. This profile's own.
use Rattle.std.specs.Prelude.{◌≡◌, ℕ, ◌+◌, ◌<◌, ◌≤◌, ◌==◌, ◌&&◌, Bool, true, false, List, length, Option, None, Some, option_map}
use Rattle.std.specs.List.{list_any}
use Rattle.mg_names.specs.declared.identifiers.Assoc.{Assoc}
use Rattle.mg_names.specs.declared.identifiers.LineNo.{LineNo}
use Rattle.mg_model.specs.declared.events.CallEvent.{CallEvent}
use Rattle.mg_model.specs.declared.events.CallEvent.TheVariants as to_call
use Rattle.mg_model.specs.declared.events.Event.{Event}
use Rattle.mg_model.specs.declared.events.Event.TheVariants.{OfCall}
use Rattle.mg_model.specs.declared.plans.PlanStep.{PlanStep}
use Rattle.mg_model.specs.declared.plans.PlanStep.TheVariants.{Executes, TakesReply, TakesNote}
use Rattle.mg_model.specs.Agent.{Agent, answers, awaits_pass, awaits_reply}
use Rattle.mg_model.specs.Delivery.{fresh}
use Rattle.mg_model.specs.Gateway.{MayBegin, offer_to, outcome_of}
use Rattle.mg_model.specs.Messages.{Reply, Request, SentNote}
use Rattle.mg_model.specs.Numbers.{last_number}
use Rattle.mg_model.specs.Script.{Script}
use Rattle.mg_model.specs.Tables.{state_of}
use Rattle.mg_model.specs.World.{HasEnded, IsNoteOf, IsReplyOf, IsRequestOf, World}
use Rattle.agent.specs.AgentValue.{agent_of}
use Rattle.agent.specs.CallValue.{Kind, rests, waits, has_ended, kind_in}
use Rattle.agent.specs.Calls.{value_of, variant_of}
use Rattle.agent.specs.Steps.{outstanding}
use Rattle.agent.specs.declared.call.Next.{Next}
use Rattle.shards.specs.CanOccur.{NeverOccurs, record_call}
use Rattle.shards.specs.Shards.{IsWorldOf, ShardValue}
use Rattle.shards.specs.Stepping.{has_step}
use Rattle.taken_steps.specs.declared.idle.Idle.{Idle}
use Rattle.taken_steps.specs.declared.idle.Idle.TheVariants.{NothingSent, NoNoteWaits, Waits, Rests, HasEnded as EndedCall, Lost, NotAwaited, NotNew, OtherAssociation, NoTimer, NothingToHear, NotBegun, NotOfCall, NotOnLine, NotReleased, NumbersEnd}
use Rattle.taken_steps.specs.declared.idle.Numbers.TheVariants.{Notes, Requests}

-- ---- a step that means no event

-- it asks for a message: for the note that waits, or for one that was sent
abbrev pub IsUnmeant : PlanStep → Idle → Type 0
IsUnmeant (TakesNote None) why = why ≡ NoNoteWaits
IsUnmeant (TakesNote (Some n)) why = why ≡ NothingSent
IsUnmeant (TakesReply which) why = why ≡ NothingSent
IsUnmeant (Executes which place) why = why ≡ NothingSent
IsUnmeant step why = ⊥

-- ---- the call

-- a call of this kind is said to be one
abbrev pub IsKind : Kind → Idle → Type 0
IsKind waits why = why ≡ Waits
IsKind rests why = why ≡ Rests
IsKind has_ended why = why ≡ EndedCall

-- the agent of a call in a world stands where the call that is handed in does
pub record StandsThere (script : Script) (w : World) (call : ℕ) (a : Next) (agent : Agent) : Type 0 where
  pub open_call : w.agent call ≡ Some agent
  pub kind : kind_in script agent ≡ variant_of a
  pub state : agent.state ≡ (agent_of (value_of a).agent).state
  pub association : agent.association ≡ (agent_of (value_of a).agent).association

-- the number of the request whose reply the call awaits
abbrev pub awaited_number : Next → Option ℕ
awaited_number a = option_map (λ (r : Request). r.number) (outstanding (agent_of (value_of a).agent).phase)

-- the number of the reply that an event brings
abbrev pub reply_brought : CallEvent → Option ℕ
reply_brought (to_call.Reply number) = Some number
reply_brought happens = None

-- of a reply or a pass, which a call that waits may take
abbrev pub IsAnswer : CallEvent → Type 0
IsAnswer (to_call.Reply number) = Unit {0}
IsAnswer to_call.Pass = Unit {0}
IsAnswer happens = ⊥

-- ---- what happened before

abbrev pub is_note_of : (call number : ℕ) → Event → Bool
is_note_of call number (OfCall of (to_call.Note n)) = of.0 == call && n == number
is_note_of call number event = false

-- the note of a call with this number reached it
abbrev pub has_reached : (call number : ℕ) → List Event → Bool
has_reached call number history = list_any (is_note_of call number) history

-- no event sends more than sixteen notes, or more than one request: after fewer events than this a number is left for each
abbrev pub few_events : ℕ
few_events = 268435455

abbrev pub IsShort : ShardValue → Type 0
IsShort v = length v.history < few_events

abbrev pub IsLong : ShardValue → Type 0
IsLong v = few_events ≤ length v.history

-- ---- an event of a line

-- the call doesn't hold the line
abbrev pub IsOfOther : ShardValue → World → (call : ℕ) → CallEvent → LineNo → Type 0
IsOfOther v w call (to_call.OnLine on happens) line = (line ≡ on) × IsShort v × (w.gateway.holder on.0 ≡ Some call → ⊥)
IsOfOther v w call happens line = ⊥

-- the call holds the line, and for one that is as it is there is no such event
abbrev pub IsRuledOut : ShardValue → World → (call : ℕ) → CallEvent → LineNo → Type 0
IsRuledOut v w call (to_call.OnLine on happens) line =
    (line ≡ on) × IsShort v × (w.gateway.holder on.0 ≡ Some call) × (outcome_of (w.gateway.line on.0) happens ≡ None)
IsRuledOut v w call happens line = ⊥

-- ---- a note

-- the note never reached the call, and none of the call's that has its number is of the call's association
abbrev pub IsOfOtherAssociation : ShardValue → World → Agent → (call number : ℕ) → Type 0
IsOfOtherAssociation v w agent call number =
    (has_reached call number v.history ≡ false) × IsShort v
    × ((sent : SentNote) → IsNoteOf w call number sent → sent.association ≡ agent.association → ⊥)

-- ---- a timer, and an association that is heard of

abbrev pub IsTimer : CallEvent → Type 0
IsTimer to_call.Timer = Unit {0}
IsTimer happens = ⊥

-- it isn't newer than this one
abbrev pub IsHeardOf : CallEvent → (own : ℕ) → Type 0
IsHeardOf (to_call.Hear association) own = association.0 ≤ own
IsHeardOf happens own = ⊥

-- it is, and the gateway hasn't begun it
abbrev pub IsUnbegun : CallEvent → Assoc → (own current : ℕ) → Type 0
IsUnbegun (to_call.Hear association) told own current = (told ≡ association) × (own < association.0) × (current < association.0)
IsUnbegun happens told own current = ⊥

-- ---- a beginning

abbrev pub IsBeginning : CallEvent → Type 0
IsBeginning (to_call.Begin old) = Unit {0}
IsBeginning happens = ⊥

-- the old call has ended, and the gateway lets none begin on its lines whose number no call had
abbrev pub IsUnreleased : Script → World → Agent → (call : ℕ) → CallEvent → Type 0
IsUnreleased script w agent call (to_call.Begin old) =
    HasEnded script w agent × (w.agent call ≡ None → w.gateway.retired call ≡ false → MayBegin w.gateway old.0 → ⊥)
IsUnreleased script w agent call happens = ⊥

-- ---- numbers that end

-- of a line: so many events happened that the numbers of notes may have ended, and they have where the call holds the line, which doesn't rule the event out.
-- Of a request: it is one that would be executed, and may raise more notes than there are numbers left for
abbrev pub NotesEnd : ShardValue → World → (call : ℕ) → CallEvent → Type 0
NotesEnd v w call (to_call.OnLine line happens) =
    IsLong v × (w.gateway.holder line.0 ≡ Some call → (outcome_of (w.gateway.line line.0) happens ≡ None → ⊥)
    → last_number < (w.gateway.link call).notes + 1)
NotesEnd v w call (to_call.Execute number chosen) =
    (request : Request) → IsRequestOf w call number request
    → (offer_to w.gateway request ≡ fresh) × (last_number < (w.gateway.link call).notes + length request.commands)
NotesEnd v w call happens = ⊥

-- no number is left for the call's next request
abbrev pub IsNoneLeft : Agent → Type 0
IsNoneLeft agent = last_number < agent.next

-- a call takes a reply to the request that it awaits, goes on where it awaits its pass, accepts a note of its association that is new to it, leaves a state
-- that has a timer, and hears of a newer association that its gateway has begun: but for its next request
abbrev pub RequestsEnd : ShardValue → World → Agent → Next → (call : ℕ) → CallEvent → Type 0
RequestsEnd v w agent a call (to_call.Reply number) =
    (awaited_number a ≡ Some number)
    × ((request : Request) (answer : Reply) → agent.phase ≡ awaits_reply request → IsReplyOf w call number answer → answers answer request ≡ true
    → IsNoneLeft agent)
RequestsEnd v w agent a call to_call.Pass = (awaited_number a ≡ None) × (agent.phase ≡ awaits_pass → IsNoneLeft agent)
RequestsEnd v w agent a call (to_call.Note number) =
    (has_reached call number v.history ≡ false) × IsLong v
    × ((sent : SentNote) → IsNoteOf w call number sent → sent.association ≡ agent.association → IsNoneLeft agent)
RequestsEnd v w agent a call to_call.Timer = ((state_of v.script agent.state).timer ≡ None → ⊥) × IsNoneLeft agent
RequestsEnd v w agent a call (to_call.Hear association) =
    (agent.association < association.0) × (association.0 ≤ w.gateway.association) × IsNoneLeft agent
RequestsEnd v w agent a call happens = ⊥

-- ---- the reasons

-- why an event is refused of which a call of this kind has steps
abbrev pub IsCause : ShardValue → World → Agent → Next → (call : ℕ) → CallEvent → Idle → Type 0
IsCause v w agent a call happens (NotOfCall line) = IsOfOther v w call happens line
IsCause v w agent a call happens (NotOnLine line) = IsRuledOut v w call happens line
IsCause v w agent a call happens (NotAwaited expected came) =
    IsAnswer happens × (came ≡ reply_brought happens) × (expected ≡ awaited_number a) × (expected ≡ came → ⊥)
IsCause v w agent a call happens (NotNew number) = (happens ≡ to_call.Note number) × (has_reached call number v.history ≡ true)
IsCause v w agent a call happens (OtherAssociation number) = (happens ≡ to_call.Note number) × IsOfOtherAssociation v w agent call number
IsCause v w agent a call happens NoTimer = IsTimer happens × ((state_of v.script agent.state).timer ≡ None)
IsCause v w agent a call happens NothingToHear = IsHeardOf happens agent.association
IsCause v w agent a call happens (NotBegun association) = IsUnbegun happens association agent.association w.gateway.association
IsCause v w agent a call happens (Lost own current) =
    IsBeginning happens × (own.0 ≡ agent.association) × (current.0 ≡ w.gateway.association) × (own.0 ≡ current.0 → ⊥)
IsCause v w agent a call happens NotReleased = IsUnreleased v.script w agent call happens
IsCause v w agent a call happens (NumbersEnd Notes) = NotesEnd v w call happens
IsCause v w agent a call happens (NumbersEnd Requests) = RequestsEnd v w agent a call happens
IsCause v w agent a call happens why = ⊥

-- a call of its kind has no such step, or it has, and this is the cause
abbrev pub IsReason : ShardValue → World → Agent → Next → (call : ℕ) → CallEvent → Idle → Type 0
IsReason v w agent a call happens Waits = (variant_of a ≡ waits) × (has_step happens waits ≡ false)
IsReason v w agent a call happens Rests = (variant_of a ≡ rests) × (has_step happens rests ≡ false)
IsReason v w agent a call happens EndedCall = (variant_of a ≡ has_ended) × (has_step happens has_ended ≡ false)
IsReason v w agent a call happens why = (has_step happens (variant_of a) ≡ true) × IsCause v w agent a call happens why

-- the agent of the call in a world, or of that on whose lines another would begin, and why the event is refused there
pub record IsRefusedIn (v : ShardValue) (w : World) (a : Next) (call : ℕ) (happens : CallEvent) (why : Idle) : Type 0 where
  pub agent : Agent
  pub stands : StandsThere v.script w (record_call call happens) a agent
  pub reason : IsReason v w agent a call happens why

-- the event of a call can't happen in any world that the shard shows, and this is the reason in each of them
pub record IsRefusedFor (v : ShardValue) (a : Next) (call : ℕ) (happens : CallEvent) (why : Idle) : Type 0 where
  pub never : NeverOccurs v (OfCall (record { 0 = call }) happens)
  pub because : (w : World) → IsWorldOf v w → IsRefusedIn v w a call happens why

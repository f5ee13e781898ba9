-- What a call that is handed in comes back as. A reader should check that a step that is refused hands back the same call but for room in its
-- transcript, and that a step that can be taken is refused for want of memory alone.
use Rattle.std.specs.Prelude.{◌≡◌, Bool, true, false, if◌then◌else◌, Option, Some, None, Result, Ok, Err}
use Rattle.mg_model.specs.declared.events.CallEvent.{CallEvent}
use Rattle.mg_model.specs.declared.events.CallEvent.TheVariants as to_call
use Rattle.mg_model.specs.declared.events.Event.TheVariants.{OfCall}
use Rattle.mg_model.specs.Agent.{Agent}
use Rattle.mg_model.specs.Numbers.{the_call}
use Rattle.agent.specs.AgentValue.{agent_of}
use Rattle.agent.specs.CallValue.{CallValue, Kind, rests, waits}
use Rattle.agent.specs.Calls.{IsNext, IsLonger, value_of, variant_of}
use Rattle.agent.specs.Preparing.{stepped_by}
use Rattle.agent.specs.declared.call.Next.{Next}
use Rattle.agent.specs.declared.call.Refused.{Refused}
use Rattle.agent.specs.declared.delivered.Delivery.{Delivery}
use Rattle.agent.specs.declared.delivered.Delivery.TheVariants.{Reply, Pass, Note, Timer, Hear}
use Rattle.agent.specs.declared.refusal.Refusal.{Refusal}
use Rattle.agent.specs.declared.refusal.Refusal.TheVariants.{NotEnabled, Behind, NoMemory}

-- the same call, but for room in its transcript
pub record IsSameCall (old new : CallValue) : Type 0 where
  pub script : new.script ≡ old.script
  pub agent : new.agent ≡ old.agent
  pub transcript : new.transcript ≡ old.transcript

-- the event of a call at which a step of its agent is taken
abbrev pub event_of : Delivery → CallEvent
event_of (Reply reply) = to_call.Reply reply.now.number
event_of Pass = to_call.Pass
event_of (Note note) = to_call.Note note.now.number
event_of Timer = to_call.Timer
event_of (Hear association) = to_call.Hear association

-- a call of this kind can take such a step: one that waits takes a reply or goes on, one that rests in a state that isn't an end takes a note or its
-- timer, and each hears
abbrev pub takes : Kind → Delivery → Bool
takes waits (Reply reply) = true
takes waits Pass = true
takes rests (Note note) = true
takes rests Timer = true
takes kind (Hear association) = true
takes kind delivery = false

abbrev pub advancing : Next → Delivery → Option Agent
advancing next delivery =
    if takes (variant_of next) delivery then stepped_by (value_of next).script (agent_of (value_of next).agent) delivery else None

-- the step is taken and logged, or can't be; where memory ran out the very call is handed back too
abbrev pub IsAdvanced : Next → Delivery → Next → Result (Unit {0}) Refusal → Type 0
IsAdvanced old delivery new (Ok _) =
    IsNext new × (advancing old delivery ≡ Some (agent_of (value_of new).agent))
    × IsLonger (OfCall (the_call (value_of old).agent.call) (event_of delivery)) (value_of old) (value_of new)
IsAdvanced old delivery new (Err NotEnabled) = (advancing old delivery ≡ None) × (new ≡ old)
IsAdvanced old delivery new (Err NoMemory) = new ≡ old
IsAdvanced old delivery new (Err (Behind slot_count)) = ⊥

-- the answer of a step, with the call in it by what it was
abbrev pub IsHanded : {S : Type 0} → (CallValue → Next) → Result Next (Refused S) → Next → Result (Unit {0}) Refusal → Type 0
IsHanded of (Ok answer) new (Ok _) = new ≡ answer
IsHanded of (Err refused) new (Err why) = (new ≡ of refused.call) × (why ≡ refused.why)
IsHanded of (Ok answer) new (Err why) = ⊥
IsHanded of (Err refused) new (Ok _) = ⊥

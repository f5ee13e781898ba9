-- When a step of a call is answered how. A reader should check that every answer but `Ok` hands the same call back, that a step that is
-- taken adds exactly its event to the transcript, and that an answer is of the kind that the agent is.
use Rattle.std.specs.Prelude.{◌≡◌, ℕ, ◌==◌, Bool, true, false, if◌then◌else◌, List, [], ◌∷◌, ◌++◌, codes, Option, Some, None, is_some, Result, Ok, Err}
use Rattle.mg_model.specs.Agent.{Agent, begun}
use Rattle.mg_model.specs.declared.events.CallEvent.{CallEvent}
use Rattle.mg_model.specs.declared.events.CallEvent.TheVariants.{OnLine, Execute, Reply, Pass, Note, Timer, Begin, Hear}
use Rattle.mg_model.specs.declared.events.Event.{Event}
use Rattle.mg_model.specs.declared.events.Event.TheVariants.{OfCall, Restart}
use Rattle.mg_model.specs.World as event
use Rattle.agent.specs.AgentValue.{agent_of}
use Rattle.agent.specs.CallValue.{CallValue, Kind, rests, waits, has_ended, kind_of}
use Rattle.agent.specs.declared.call.Next.{Next}
use Rattle.agent.specs.declared.call.Next.TheVariants as next
use Rattle.agent.specs.declared.call.Refused.{Refused}
use Rattle.agent.specs.declared.retired.Retired.{Retired}
use Rattle.agent.specs.declared.fault.PlainFault.{PlainFault}
use Rattle.agent.specs.declared.fault.PlainFault.TheVariants as fault
use Rattle.agent.specs.declared.refusal.Refusal.{Refusal}
use Rattle.agent.specs.declared.refusal.Refusal.TheVariants.{NotEnabled, Behind, NoMemory}

abbrev pub value_of : Next → CallValue
value_of (next.Resting call) = call
value_of (next.Waiting call) = call
value_of (next.Ended call) = call

abbrev pub variant_of : Next → Kind
variant_of (next.Resting call) = rests
variant_of (next.Waiting call) = waits
variant_of (next.Ended call) = has_ended

-- the variant is the kind that the agent is
abbrev pub IsNext : Next → Type 0
IsNext answer = variant_of answer ≡ kind_of (value_of answer)

-- ---- steps

-- what is the same in every step: the script, and the transcript but for one event more at its end
pub record IsLonger (event : Event) (old new : CallValue) : Type 0 where
  pub script : new.script ≡ old.script
  pub transcript : new.transcript ≡ old.transcript ++ event ∷ []

-- it isn't enabled exactly where no step can be taken
abbrev pub IsRefused : Option Agent → Refusal → Type 0
IsRefused taken NotEnabled = taken ≡ None
IsRefused taken NoMemory = is_some taken ≡ true
IsRefused taken (Behind slot_count) = ⊥

-- the step is taken and logged, or the very call is handed back
abbrev pub IsTaken : {S : Type 0} → Option Agent → Event → CallValue → Result Next (Refused S) → Type 0
IsTaken taken event old (Ok answer) = IsNext answer × (taken ≡ Some (agent_of (value_of answer).agent)) × IsLonger event old (value_of answer)
IsTaken taken event old (Err refused) = (refused.call ≡ old) × IsRefused taken refused.why

-- the same of a call in place
abbrev pub IsDone : Option Agent → Event → CallValue → CallValue → Result (Unit {0}) Refusal → Type 0
IsDone taken event old new (Ok _) = (taken ≡ Some (agent_of new.agent)) × IsLonger event old new
IsDone taken event old new (Err why) = (new ≡ old) × IsRefused taken why

-- the answer of a call in place, with the call in it
abbrev pub IsHandedOn : {S : Type 0} → CallValue → Result (Unit {0}) Refusal → Result Next (Refused S) → Type 0
IsHandedOn call (Ok _) (Ok answer) = IsNext answer × (value_of answer ≡ call)
IsHandedOn call (Err why) (Err refused) = (refused.call ≡ call) × (refused.why ≡ why)
IsHandedOn call (Ok _) (Err refused) = ⊥
IsHandedOn call (Err why) (Ok answer) = ⊥

-- ---- what is logged

-- an event of a line that the call holds, or an execute
abbrev pub is_of_gateway : CallEvent → Bool
is_of_gateway (OnLine line happens) = true
is_of_gateway (Execute number chosen) = true
is_of_gateway (Reply number) = false
is_of_gateway Pass = false
is_of_gateway (Note number) = false
is_of_gateway Timer = false
is_of_gateway (Begin old) = false
is_of_gateway (Hear association) = false

-- one of those, of this call
abbrev pub is_loggable : ℕ → Event → Bool
is_loggable call (OfCall c happens) = if c.0 == call then is_of_gateway happens else false
is_loggable call Restart = false

abbrev pub IsUnlogged : CallValue → Event → Refusal → Type 0
IsUnlogged old event NotEnabled = is_loggable old.agent.call event ≡ false
IsUnlogged old event NoMemory = (is_loggable old.agent.call event ≡ true) × (old.room ≡ false)
IsUnlogged old event (Behind slot_count) = ⊥

pub record IsWithEvent (event : Event) (old new : CallValue) : Type 0 where
  pub loggable : is_loggable old.agent.call event ≡ true
  pub agent : new.agent ≡ old.agent
  pub longer : IsLonger event old new

abbrev pub IsLogged : {S : Type 0} → Event → CallValue → Result Next (Refused S) → Type 0
IsLogged event old (Ok answer) = IsNext answer × IsWithEvent event old (value_of answer)
IsLogged event old (Err refused) = (refused.call ≡ old) × IsUnlogged old event refused.why

-- the same of a call in place
abbrev pub IsWritten : Event → CallValue → CallValue → Result (Unit {0}) Refusal → Type 0
IsWritten event old new (Ok _) = IsWithEvent event old new
IsWritten event old new (Err why) = (new ≡ old) × IsUnlogged old event why

abbrev pub with_room : CallValue → CallValue
with_room c = record c { room = true }

-- ---- a beginning

-- the call begins on the lines of the old one, its beginning being all that happened to it
pub record IsBegun (call : ℕ) (old new : CallValue) : Type 0 where
  pub agent : agent_of new.agent ≡ begun old.script call (agent_of old.agent)
  pub script : new.script ≡ old.script
  pub transcript : new.transcript ≡ event.begin call old.agent.call ∷ []

-- what is left of the old one
pub record IsRetired (old : CallValue) (retired : Retired) : Type 0 where
  pub call : retired.call.0 ≡ old.agent.call
  pub state : retired.state ≡ old.agent.state
  pub transcript : retired.transcript.items ≡ old.transcript

-- it isn't begun for want of memory alone, which there is where there is room
pub record IsUnbegun (old new : CallValue) (why : Refusal) : Type 0 where
  pub same : new ≡ old
  pub no_memory : why ≡ NoMemory
  pub room : old.room ≡ false

abbrev pub IsBeginning : {S : Type 0} → ℕ → CallValue → Result (Next × Retired) (Refused S) → Type 0
IsBeginning call old (Ok (answer, retired)) = IsNext answer × IsBegun call old (value_of answer) × IsRetired old retired
IsBeginning call old (Err refused) = IsUnbegun old refused.call refused.why

-- the same of a call in place
abbrev pub IsBegunAnew : ℕ → CallValue → CallValue → Result Retired Refusal → Type 0
IsBegunAnew call old new (Ok retired) = IsBegun call old new × IsRetired old retired
IsBegunAnew call old new (Err why) = IsUnbegun old new why

-- ---- the refusals: no two have one number

abbrev pub number_of : Refusal → ℕ
number_of NotEnabled = 1
number_of (Behind slot_count) = 2
number_of NoMemory = 3

abbrev pub name_of : Refusal → List ℕ
name_of NotEnabled = codes "NotEnabled"
name_of (Behind slot_count) = codes "Behind"
name_of NoMemory = codes "NoMemory"

abbrev pub refusal_of : PlainFault → Refusal
refusal_of fault.NotEnabled = NotEnabled
refusal_of fault.NoMemory = NoMemory

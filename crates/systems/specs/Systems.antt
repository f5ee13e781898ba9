-- What is made of a gateway and of the calls of a script on it. A reader should check that no public call of `gateway` or `agent` that
-- changes what they show is missing but those that open, that each is said by its own contract, that a message may come whenever it was sent,
-- and that nothing else changes in a step.
use Rattle.std.specs.Prelude.{◌≡◌, ℕ, zero, suc, ◌≤◌, ◌==◌, if◌then◌else◌, List, [], ◌∷◌, ◌++◌, Contains, Option, Some, None, is_some, option_map, Result, Ok, Err}
use Rattle.mg_names.specs.declared.identifiers.Assoc.{Assoc}
use Rattle.mg_model.specs.declared.events.CallEvent.{CallEvent}
use Rattle.mg_model.specs.declared.events.CallEvent.TheVariants as to_call
use Rattle.mg_model.specs.declared.events.Event.{Event}
use Rattle.mg_model.specs.declared.events.Event.TheVariants.{OfCall}
use Rattle.mg_model.specs.declared.failures.ChosenRefusal.{ChosenRefusal}
use Rattle.mg_model.specs.declared.line_events.LineEvent.{LineEvent}
use Rattle.mg_model.specs.Agent.{Agent, replied, passed, noted, timed, heard}
use Rattle.mg_model.specs.Messages.{Request, Reply, SentNote}
use Rattle.mg_model.specs.Script.{Script}
use Rattle.mg_model.specs.Tables.{line_places}
use Rattle.mg_model.specs.World.{World, HasEnded, sent_in}
use Rattle.mg_model.specs.Numbers.{the_call}
use Rattle.gateway.specs.declared.answer.Answer.{Answer}
use Rattle.gateway.specs.declared.answer.Answer.TheVariants as answer
use Rattle.gateway.specs.declared.fault.CannotHappen as fault
use Rattle.gateway.specs.Answers.{IsAnswered, IsHappened, IsRestarted, note_listed}
use Rattle.gateway.specs.Beginnings.{IsBegun}
use Rattle.gateway.specs.GatewayValue.{GatewayValue, gateway_of, is_open}
use Rattle.agent.specs.AgentValue.{agent_of}
use Rattle.agent.specs.CallValue.{CallValue}
use Rattle.agent.specs.Calls as calls

-- what a gateway and its calls show, and all that was ever sent
pub record System : Type 0 where
  pub gateway : GatewayValue
  -- each call that is open
  pub call : ℕ → Option CallValue
  pub requests : List Request
  pub replies : List Reply
  pub notes : List SentNote

abbrev pub agent_in : CallValue → Agent
agent_in call = agent_of call.agent

abbrev pub agents_of : (ℕ → Option CallValue) → ℕ → Option Agent
agents_of call number = option_map agent_in (call number)

abbrev pub world_of : System → World
world_of s = record {
  gateway = gateway_of s.gateway;
  agent = agents_of s.call;
  requests = s.requests;
  replies = s.replies;
  notes = s.notes;
}

-- each call is of this script
abbrev pub AreOf : Script → System → Type 0
AreOf script s = (number : ℕ) (call : CallValue) → s.call number ≡ Some call → call.script ≡ script

-- the calls are those that the gateway has open
abbrev pub AreOpen : System → Type 0
AreOpen s = (number : ℕ) → is_some (s.call number) ≡ is_open s.gateway number

-- a call is put in the place of a number
abbrev pub with_call : (ℕ → Option CallValue) → ℕ → CallValue → ℕ → Option CallValue
with_call call number new n = if n == number then Some new else call n

-- ---- what the gateway does

abbrev pub replies_told : Answer → List Reply
replies_told (answer.Executed reply notes) = reply ∷ []
replies_told (answer.Kept reply) = reply ∷ []
replies_told other = []

abbrev pub notes_told : Answer → List SentNote
notes_told (answer.Executed reply notes) = notes.items
notes_told other = []

-- a request that was sent reaches it, as a message of some call
pub record Answers (s t : System) : Type 0 where
  pub call : ℕ
  pub request : Request
  pub refusal : Option ChosenRefusal
  pub answer : Answer
  pub sent : Contains s.requests request
  pub answered : IsAnswered s.gateway call request refusal t.gateway answer
  pub calls : t.call ≡ s.call
  pub requests : t.requests ≡ s.requests
  pub replies : t.replies ≡ replies_told answer ++ s.replies
  pub notes : t.notes ≡ notes_told answer ++ s.notes

abbrev pub note_told : Result (Option SentNote) fault.CannotHappen → List SentNote
note_told (Ok note) = note_listed note
note_told (Err _) = []

-- something happens on a line
pub record Happens (s t : System) : Type 0 where
  pub line : ℕ
  pub event : LineEvent
  pub answer : Result (Option SentNote) fault.CannotHappen
  pub happened : IsHappened s.gateway line event t.gateway answer
  pub calls : t.call ≡ s.call
  pub requests : t.requests ≡ s.requests
  pub replies : t.replies ≡ s.replies
  pub notes : t.notes ≡ note_told answer ++ s.notes

-- nothing but the gateway changes
pub record ChangesGateway (s t : System) : Type 0 where
  pub calls : t.call ≡ s.call
  pub requests : t.requests ≡ s.requests
  pub replies : t.replies ≡ s.replies
  pub notes : t.notes ≡ s.notes

pub record Restarts (s t : System) : Type 0 where
  pub answer : Result Assoc fault.CannotHappen
  pub restarted : IsRestarted s.gateway t.gateway answer
  pub others : ChangesGateway s t

-- ---- what a call does

-- the agent that a step leaves, if it is taken: by a message that was sent to the call, or by nothing but what the call knows
abbrev pub Takes : Script → System → ℕ → Agent → CallEvent → Option Agent → Type 0
Takes script s call a (to_call.Reply number) taken = (message : Reply) × Contains s.replies message × (message.call ≡ call)
    × (message.number ≡ number) × (taken ≡ replied script a message)
Takes script s call a to_call.Pass taken = taken ≡ passed script a
Takes script s call a (to_call.Note number) taken = (message : SentNote) × Contains s.notes message × (message.call ≡ call)
    × (message.number ≡ number) × (taken ≡ noted script a (line_places script) message)
Takes script s call a to_call.Timer taken = taken ≡ timed script a
Takes script s call a (to_call.Hear association) taken =
    (association.0 ≤ (gateway_of s.gateway).association) × (taken ≡ heard script a association.0)
Takes script s call a other taken = ⊥

-- a step of a call is taken, and the request of the state that it enters is sent
pub record Steps (s t : System) : Type 0 where
  pub number : ℕ
  pub old : CallValue
  pub new : CallValue
  pub happens : CallEvent
  pub taken : Option Agent
  pub open_call : s.call number ≡ Some old
  pub takes : Takes old.script s number (agent_in old) happens taken
  pub done : calls.IsDone taken (OfCall (the_call number) happens) old new (Ok tt)
  pub calls : t.call ≡ with_call s.call number new
  pub gateway : t.gateway ≡ s.gateway
  pub requests : t.requests ≡ sent_in (agent_in new).phase ++ s.requests
  pub replies : t.replies ≡ s.replies
  pub notes : t.notes ≡ s.notes

-- nothing but this call changes
pub record ChangesCall (number : ℕ) (old new : CallValue) (s t : System) : Type 0 where
  pub open_call : s.call number ≡ Some old
  pub calls : t.call ≡ with_call s.call number new
  pub gateway : t.gateway ≡ s.gateway
  pub requests : t.requests ≡ s.requests
  pub replies : t.replies ≡ s.replies
  pub notes : t.notes ≡ s.notes

-- a call writes down an event that the gateway did
pub record Logs (s t : System) : Type 0 where
  pub number : ℕ
  pub old : CallValue
  pub new : CallValue
  pub event : Event
  pub logged : calls.IsWithEvent event old new
  pub others : ChangesCall number old new s t

-- a call makes room for an event
pub record MakesRoom (s t : System) : Type 0 where
  pub number : ℕ
  pub old : CallValue
  pub others : ChangesCall number old (calls.with_room old) s t

-- a call that has ended gives its lines to another, on the gateway and by itself
pub record Begins (s t : System) : Type 0 where
  pub old : ℕ
  pub new : ℕ
  pub before : CallValue
  pub after : CallValue
  pub open_call : s.call old ≡ Some before
  pub ended : HasEnded before.script (world_of s) (agent_in before)
  pub begun : IsBegun s.gateway old new t.gateway (Ok tt)
  pub call_begun : calls.IsBegun new before after
  pub calls : t.call ≡ (λ n. if n == new then Some after else if n == old then None else s.call n)
  pub requests : t.requests ≡ s.requests
  pub replies : t.replies ≡ s.replies
  pub notes : t.notes ≡ s.notes

-- ---- all that is done: a call that is refused, and handed back as it was, is no deed

pub data Does (s t : System) : Type 0 where
  answers : Answers s t → Does s t
  happens : Happens s t → Does s t
  restarts : Restarts s t → Does s t
  steps : Steps s t → Does s t
  logs : Logs s t → Does s t
  makes_room : MakesRoom s t → Does s t
  begins : Begins s t → Does s t

-- so many deeds, one after the other
abbrev pub Makes : ℕ → System → System → Type 0
Makes zero s t = t ≡ s
Makes (suc n) s t = (next : System) × (Does s next × Makes n next t)

-- That a call that waits can be led on, so that a promise of what never happens isn't kept by calls that stand still. A reader should check that the events
-- are the call's own, that the gateway chooses no refusal in them, and that what is asked of the world is no more than numbers that are left.
use Rattle.std.specs.Prelude.{◌≡◌, ℕ, ◌+◌, ◌≤◌, false, IsTrue, List, [], ◌∷◌, length, Some, None, is_some}
use Rattle.mg_model.specs.declared.events.Event.{Event}
use Rattle.mg_model.specs.Agent.{Agent, Phase, awaits_reply, awaits_pass, resting, answers, replied, passed}
use Rattle.mg_model.specs.Messages.{Request, Reply}
use Rattle.mg_model.specs.Numbers.{last_number}
use Rattle.mg_model.specs.Script.{Script}
use Rattle.mg_model.specs.Shards.{AreLeft, IsContextLeft, IsEphemeralLeft}
use Rattle.mg_model.specs.Tables.{state_of, is_empty}
use Rattle.mg_model.specs.World.{World, Runs, execute, reply, pass}
use Rattle.mg_safety.specs.Beginnings.{OfCallsInRuns}

-- each state that has commands says where a failure leads
abbrev pub HasFaults : Script → Type 0
HasFaults script = (state : ℕ) → is_empty (state_of script state).commands ≡ false → IsTrue (is_some (state_of script state).fault)

-- numbers are left for the request that a call waits for, and for the next one
pub record NumbersAreLeft (w : World) (call : ℕ) (a : Agent) : Type 0 where
  -- as many contexts and ephemerals as the request has commands: each creates at most one of both
  pub contexts : (request : Request) → a.phase ≡ awaits_reply request → AreLeft (IsContextLeft w.gateway.board) (length request.commands)
  pub ephemerals : (request : Request) → a.phase ≡ awaits_reply request → AreLeft (IsEphemeralLeft w.gateway.board) (length request.commands)
  -- as many notes: each command raises at most one
  pub notes : (request : Request) → a.phase ≡ awaits_reply request → (w.gateway.link call).notes + length request.commands ≤ last_number
  -- one transaction, for the request of the state that is entered then
  pub next : a.next ≤ last_number

-- what a call waits for: its request reaches the gateway, which chooses no refusal, and a reply to it comes; or the call passes. At rest it waits for
-- nothing
abbrev pub events_due : ℕ → Phase → List Event
events_due call (awaits_reply request) = execute call request.number None ∷ reply call request.number ∷ []
events_due call awaits_pass = pass call ∷ []
events_due call resting = []

-- what the agent is then: what a reply to that very request makes of it, or the pass
abbrev pub IsLedOn : Script → Agent → Phase → Agent → Type 0
IsLedOn script a (awaits_reply request) b = (answer : Reply) × IsTrue (answers answer request) × (replied script a answer ≡ Some b)
IsLedOn script a awaits_pass b = passed script a ≡ Some b
IsLedOn script a resting b = b ≡ a

-- these events can happen, one after the other
pub record CanGoOn (script : Script) (w : World) (call : ℕ) (a : Agent) : Type 0 where
  pub end : World
  pub agent : Agent
  pub runs : Runs script (events_due call a.phase) w end
  pub open_call : end.agent call ≡ Some agent
  pub led_on : IsLedOn script a a.phase agent

-- so it is in each world of each run, where no obligation is broken, with each call of the gateway's association
abbrev pub CallsCanGoOn : Type 0
CallsCanGoOn =
    OfCallsInRuns (λ script w call a. HasFaults script → a.association ≡ w.gateway.association → NumbersAreLeft w call a → CanGoOn script w call a)

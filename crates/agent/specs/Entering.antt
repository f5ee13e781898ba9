-- What entering a state comes to, by the parts of an agent that it goes by. A reader should check that whatever is entered, the
-- lines, what is bound, what is expected, the association and the notes stay.
use Rattle.std.specs.Prelude.{◌≡◌, ℕ, Bool, is_some, Option, Some, None, Result, Ok, Err}
use Rattle.mg_model.specs.Agent.{Agent, entered_or_rests, entered_if}
use Rattle.mg_model.specs.Script.{Script}
use Rattle.mg_model.specs.Tables.{state_of}
use Rattle.mg_model.specs.declared.failures.Failure.{Failure}
use Rattle.agent.specs.AgentValue.{phase_of}
use Rattle.agent.specs.Parts.{agent_in, bound_as}
use Rattle.agent.specs.declared.entering.Entered.{Entered}
use Rattle.agent.specs.declared.entering.Start.{Start}
use Rattle.agent.specs.declared.fault.PlainFault.{PlainFault}
use Rattle.agent.specs.declared.fault.PlainFault.TheVariants.{NotEnabled, NoMemory}

-- the agent is in this state, in this association, with this number and these bindings
pub record Starts (start : Start) (a : Agent) : Type 0 where
  pub call : a.call ≡ start.call.0
  pub state : a.state ≡ start.state
  pub association : a.association ≡ start.association.0
  pub next : a.next ≡ start.next
  pub bound : bound_as a (agent_in start.bindings) ≡ a

-- the agent with what it has once it entered a state
abbrev pub having : Agent → Entered → Agent
having a e = record a { state = e.state; phase = phase_of e.phase; next = e.next }

abbrev pub IsEntered : Option Agent → Agent → Result Entered PlainFault → Type 0
IsEntered entered a (Ok e) = entered ≡ Some (having a e)
IsEntered entered a (Err NotEnabled) = entered ≡ None
IsEntered entered a (Err NoMemory) = Unit {0}

-- every agent that starts so enters so
abbrev pub IsEntering : (Agent → Option Agent) → Start → Result Entered PlainFault → Type 0
IsEntering entered start result = (a : Agent) → Starts start a → IsEntered (entered a) a result

-- the test says of every agent that starts so whether it enters
abbrev pub CanEnter : (Agent → Option Agent) → Start → Bool → Type 0
CanEnter entered start result = (a : Agent) → Starts start a → result ≡ is_some (entered a)

-- where a reply leads from a state
abbrev pub leads_from : Script → ℕ → Agent → Option Failure → Option Agent
leads_from script state a None = entered_or_rests script a (state_of script state).ok
leads_from script state a (Some failure) = entered_if script a (state_of script state).fault

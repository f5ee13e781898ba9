-- When a step of an agent is answered how. A reader should check that each answer but `Ok` leaves the agent as it was.
use Rattle.std.specs.Prelude.{◌≡◌, ℕ, Bool, true, false, Option, Some, None, Result, Ok, Err}
use Rattle.mg_model.specs.Agent.{Agent, Phase, awaits_reply, awaits_pass, resting, answers, inbox_of}
use Rattle.mg_model.specs.Delivery.{with_accepted}
use Rattle.mg_model.specs.Messages.{Request, Reply}
use Rattle.agent.specs.declared.fault.PlainFault.{PlainFault}
use Rattle.agent.specs.declared.fault.PlainFault.TheVariants.{NotEnabled, NoMemory}
use Rattle.agent.specs.AgentValue.{AgentValue, agent_of}

-- a step is taken, or it can't be and nothing changes; nor does anything where memory ran out
abbrev pub IsStepped : Option Agent → AgentValue → AgentValue → Result (Unit {0}) PlainFault → Type 0
IsStepped stepped old new (Ok _) = stepped ≡ Some (agent_of new)
IsStepped stepped old new (Err NotEnabled) = (stepped ≡ None) × (new ≡ old)
IsStepped stepped old new (Err NoMemory) = new ≡ old

-- the request whose reply is awaited
abbrev pub outstanding : Phase → Option Request
outstanding (awaits_reply request) = Some request
outstanding awaits_pass = None
outstanding resting = None

-- the agent rests, whatever it awaited
abbrev pub given_up : Agent → Agent
given_up a = record a { phase = resting }

-- this reply is awaited
abbrev pub is_awaited : Phase → Reply → Bool
is_awaited (awaits_reply request) reply = answers reply request
is_awaited awaits_pass reply = false
is_awaited resting reply = false

-- the agent goes on where it is told to
abbrev pub is_passing : Phase → Bool
is_passing (awaits_reply request) = false
is_passing awaits_pass = true
is_passing resting = false

-- a note of this number is accepted
abbrev pub accepting : Agent → ℕ → Agent
accepting a number = record a { accepted = (with_accepted (inbox_of a) number).accepted }

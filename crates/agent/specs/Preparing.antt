-- The steps of an agent in two parts: preparing, which may want memory or be refused, and finishing or cancelling, which can do neither.
-- A reader should check that what is prepared and then finished is the step, that what is prepared and then cancelled leaves the agent
-- as it was, and that each answer but `Ok` does so at once.
use Rattle.std.specs.Prelude.{◌≡◌, ℕ, false, Option, Some, None, Result, Ok, Err}
use Rattle.mg_model.specs.Agent.{Agent, replied, passed, noted, timed, heard}
use Rattle.mg_model.specs.Script.{Script}
use Rattle.mg_model.specs.Tables.{line_places}
use Rattle.agent.specs.AgentValue.{AgentValue, agent_of}
use Rattle.agent.specs.PreparedValue.{PreparedValue, finished, cancelled}
use Rattle.agent.specs.Steps.{accepting}
use Rattle.agent.specs.declared.delivered.Delivery.{Delivery}
use Rattle.agent.specs.declared.delivered.Delivery.TheVariants.{Reply, Pass, Note, Timer, Hear}
use Rattle.agent.specs.declared.fault.PlainFault.{PlainFault}
use Rattle.agent.specs.declared.fault.PlainFault.TheVariants.{NotEnabled, NoMemory}

-- the step of the definition that is taken at what reaches the agent
abbrev pub stepped_by : Script → Agent → Delivery → Option Agent
stepped_by script a (Reply reply) = replied script a reply.now
stepped_by script a Pass = passed script a
stepped_by script a (Note note) = noted script a (line_places script) note.now
stepped_by script a Timer = timed script a
stepped_by script a (Hear association) = heard script a association.0

-- the step is prepared, or it can't be taken and nothing changes; nor does anything where memory ran out
abbrev pub IsPrepared : Option Agent → AgentValue → AgentValue → Result PreparedValue PlainFault → Type 0
IsPrepared stepped old new (Ok prepared) = (stepped ≡ Some (finished (agent_of new) prepared)) × (cancelled (agent_of new) prepared ≡ agent_of old)
IsPrepared stepped old new (Err NotEnabled) = (stepped ≡ None) × (new ≡ old)
IsPrepared stepped old new (Err NoMemory) = new ≡ old

-- the step beside the agent, which stays
abbrev pub IsAfter : Option Agent → Result AgentValue PlainFault → Type 0
IsAfter stepped (Ok after) = stepped ≡ Some (agent_of after)
IsAfter stepped (Err NotEnabled) = stepped ≡ None
IsAfter stepped (Err NoMemory) = Unit {0}

-- ---- before the note is accepted

-- the agent that accepted the note, where there is one
abbrev pub with_note : Agent → Option ℕ → Agent
with_note a None = a
with_note a (Some number) = accepting a number

-- the note, where there is one, wasn't accepted before
abbrev pub IsNewNote : Agent → Option ℕ → Type 0
IsNewNote a None = Unit {0}
IsNewNote a (Some number) = a.accepted number ≡ false

-- what is to be put in place once the note is accepted
abbrev pub IsPreparedButForNote : Option Agent → Agent → Result PreparedValue PlainFault → Type 0
IsPreparedButForNote stepped a (Ok prepared) = (stepped ≡ Some (finished (with_note a prepared.note) prepared)) × IsNewNote a prepared.note
IsPreparedButForNote stepped a (Err NotEnabled) = stepped ≡ None
IsPreparedButForNote stepped a (Err NoMemory) = Unit {0}

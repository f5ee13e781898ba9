-- What a call shows: its script, its agent, what happened to it so far, and whether its next event takes no memory; and which kind of
-- call an agent is. A reader should check that the kinds leave no agent out.
use Rattle.std.specs.Prelude.{◌≡◌, ℕ, ◌<◌, Bool, true, if◌then◌else◌, List, []}
use Rattle.mg_model.specs.Agent.{Agent, is_resting}
use Rattle.mg_model.specs.declared.events.Event.{Event}
use Rattle.mg_model.specs.Script.{Script}
use Rattle.mg_model.specs.Tables.{state_of}
use Rattle.agent.specs.AgentValue.{AgentValue, agent_of}

pub record CallValue : Type 0 where
  pub script : Script
  pub agent : AgentValue
  -- what happened to the call, the latest last
  pub transcript : List Event
  -- the next event takes no memory
  pub room : Bool

-- a call rests, waits for a reply or to be told to go on, or has ended
pub data Kind : Type 0 where
  rests : Kind
  waits : Kind
  has_ended : Kind

abbrev pub kind_in : Script → Agent → Kind
kind_in script a = if is_resting a.phase then (if (state_of script a.state).is_end then has_ended else rests) else waits

abbrev pub kind_of : CallValue → Kind
kind_of c = kind_in c.script (agent_of c.agent)

-- where there is room, the transcript has a place left, and the spare one, which is empty, has one too
pub record HasRoom (held places : ℕ) (spare : List Event) (spare_held spare_places : ℕ) (room : Bool) : Type 0 where
  pub empty : spare ≡ []
  pub none_held : spare_held ≡ 0
  pub place : room ≡ true → held < places
  pub spare_place : room ≡ true → spare_held < spare_places

-- Where a run leaves the call of a line. A reader should check that a line has the state and the phase of the agent that its call has in the world that the
-- run ends in, that it tells a call as retired only where none is open there any more and the history has the beginning of another on it, and that
-- each has as many events as the history has of its call; and that no call of a history is without its line. This profile's own.
use Rattle.std.specs.Prelude.{◌≡◌, ℕ, ◌==◌, ◌%◌, IsTrue, List, length, Contains, Some, None, ◌⊎◌, slice_get, slice_index_or, []}
use Rattle.mg_names.specs.declared.identifiers.CallNo.{CallNo}
use Rattle.mg_model.specs.declared.events.CallEvent.{CallEvent}
use Rattle.mg_model.specs.declared.events.Event.{Event}
use Rattle.mg_model.specs.declared.events.Event.TheVariants.{OfCall}
use Rattle.mg_model.specs.Agent.{Agent}
use Rattle.mg_model.specs.Numbers.{plan_calls}
use Rattle.mg_model.specs.Plans.{number_begun}
use Rattle.mg_model.specs.Reports.{phase_word}
use Rattle.mg_model.specs.Script.{Script}
use Rattle.mg_model.specs.Tables.{state_of}
use Rattle.mg_model.specs.World.{World, begin}
use Rattle.run_shards.specs.Shards.{IsWorldOf, ShardValue}
use Rattle.run_shards.specs.Parts.{of_call}
use Rattle.run_shards.specs.ReportLines.{phase_text}
use Rattle.run_shards.specs.CallPhase.TheVariants.{Retired}
use Rattle.run_shards.specs.Line.{Line}

-- the number of the call that a line tells of
abbrev pub call_of : Line → ℕ
call_of l = number_begun l.call l.begun

-- ---- in the world at the end of the run

-- the call is open there, and its agent is as the line tells
pub record IsOpenAs (script : Script) (end : World) (l : Line) : Type 0 where
  pub agent : Agent
  pub open_call : end.agent (call_of l) ≡ Some agent
  pub state : l.state ≡ agent.state
  pub phase : phase_text l.phase ≡ phase_word (agent.association == end.gateway.association) (state_of script agent.state).is_end agent.phase

-- another call began on its lines, and it isn't open any more. It had ended then, and the line has a state marked end
pub record IsGone (script : Script) (history : List Event) (l : Line) : Type 0 where
  pub next : ℕ
  pub begun_on : Contains history (begin next (call_of l))
  pub phase : l.phase ≡ Retired
  pub ended : IsTrue (state_of script l.state).is_end

abbrev pub IsLeftIn : Script → (history : List Event) → (end : World) → Line → Type 0
IsLeftIn script history end l = IsOpenAs script end l ⊎ (IsGone script history l × (end.agent (call_of l) ≡ None))

pub record IsLeft (script : Script) (history : List Event) (end : World) (l : Line) : Type 0 where
  pub events : l.events ≡ length (of_call (call_of l) history)
  pub left : IsLeftIn script history end l

-- each call to which something happened has its line
abbrev pub HaveLines : (history : List Event) → List Line → Type 0
HaveLines history lines = (call : CallNo) (happens : CallEvent) → Contains history (OfCall call happens) → (l : Line) × Contains lines l × (call_of l ≡ call.0)

-- ---- in a shard, and in the transcripts of a call of the plan

-- whatever world the shard shows, and with what happened to a call of the plan, with all that began within it
pub record IsLeftBy (script : Script) (v : ShardValue) (trail : List Event) (l : Line) : Type 0 where
  pub within : call_of l % plan_calls ≡ l.call
  pub events : l.events ≡ length (of_call (call_of l) trail)
  pub left : (w : World) → IsWorldOf v w → IsLeftIn script trail w l

-- its shard is one of these, of so many, and the transcripts of its call of the plan are among these
pub record IsLeftAmong (script : Script) (count : ℕ) (vs : List ShardValue) (trails : List (List Event)) (l : Line) : Type 0 where
  pub shard : ShardValue
  pub own_shard : slice_get vs (l.call % count) ≡ Some shard
  pub is_left : IsLeftBy script shard (slice_index_or trails l.call []) l

-- That a call at rest can be moved, where its script says how it goes on and its gateway hears that. A reader should check that the events are the call's own, at
-- most three, and that digits alone aren't among what leads on: a number that is dialled in part is used up where no arrow takes it, and nothing is collected any
-- more.
use Rattle.std.specs.Prelude.{◌≡◌, ℕ, ◌+◌, ◌<◌, ◌≤◌, true, false, IsTrue, List, length, Some}
use Rattle.std.specs.List.{All, list_any}
use Rattle.mg_model.specs.declared.events.Event.{Event}
use Rattle.mg_model.specs.declared.line_events.Hook.{Hook}
use Rattle.mg_model.specs.Agent.{Agent, resting}
use Rattle.mg_model.specs.LineEvents.{is_hook, kind_of}
use Rattle.mg_model.specs.Numbers.{last_number}
use Rattle.mg_model.specs.Script.{Script}
use Rattle.mg_model.specs.Tables.{state_of, target_in}
use Rattle.mg_model.specs.World.{World, Runs, is_of_call}
use Rattle.mg_safety.specs.Beginnings.{OfCallsInRuns}

-- what leads a call on: the timer of its state, or the receiver of one of its lines, lifted or put down
pub data Lead : Type 0 where
  by_timer : Lead
  by_hook : (line : ℕ) → Hook → Lead

-- the state has such a timer; or the line's list names what the receiver does, and the state says where a note of it leads
abbrev pub IsLedTo : Script → World → Agent → (target : ℕ) → Lead → Type 0
IsLedTo script w a target by_timer = (state_of script a.state).timer ≡ Some target
IsLedTo script w a target (by_hook i hook) =
    (i < length script.lines) × IsTrue (list_any (is_hook hook) (w.gateway.line (a.lines i)).list)
    × (target_in (state_of script a.state).on i (kind_of hook) ≡ Some target)

-- by these events the call enters the state
pub record CanBeMoved (script : Script) (w : World) (call target : ℕ) : Type 0 where
  pub events : List Event
  pub end : World
  pub agent : Agent
  pub few : length events ≤ 3
  pub own : All (λ (event : Event). is_of_call call event ≡ true) events
  pub runs : Runs script events w end
  pub open_call : end.agent call ≡ Some agent
  pub enters : agent.state ≡ target
  pub has_entered : agent.phase ≡ resting → ⊥

-- so it is in each world of each run, where no obligation is broken, with each call of the gateway's association that rests in a state that isn't an end, as
-- long as two notes and a transaction are left to number
abbrev pub CallsCanBeMoved : Type 0
CallsCanBeMoved =
    OfCallsInRuns (λ script w call a. a.phase ≡ resting → (state_of script a.state).is_end ≡ false → a.association ≡ w.gateway.association
    → a.next ≤ last_number → (w.gateway.link call).notes + 2 ≤ last_number
    → (target : ℕ) (lead : Lead) → IsLedTo script w a target lead → CanBeMoved script w call target)

-- The steps that the calls of a plan took on one gateway, in their order. A reader should check that each is an event or idle by the rule of the report, in
-- the world in which all calls are, and that a call's lines are counted from its own entries alone. This profile's own.
use Rattle.std.specs.Prelude.{◌≡◌, ℕ, suc, ◌+◌, ◌<◌, ◌==◌, if◌then◌else◌, List, [], ◌∷◌, ◌++◌, length, Contains, Option, Some, None, codes}
use Rattle.std.specs.List.{All}
use Rattle.mg_model.specs.declared.events.Event.{Event}
use Rattle.mg_model.specs.declared.events.Event.TheVariants.{Restart}
use Rattle.mg_model.specs.declared.plans.PlanStep.{PlanStep}
use Rattle.mg_model.specs.declared.plans.PlanStep.TheVariants.{Begins, Restarts}
use Rattle.mg_model.specs.Accepted.{HasFewCommands, IsEntryOf, IsScript}
use Rattle.mg_model.specs.Agent.{Agent}
use Rattle.mg_model.specs.Entries.{Entry}
use Rattle.mg_model.specs.Numbers.{plan_calls}
use Rattle.mg_model.specs.Obligations.{NoneBroken}
use Rattle.mg_model.specs.Plans.{number_begun}
use Rattle.mg_model.specs.Reports.{IsReported, Means, ReportLine, phase_word}
use Rattle.mg_model.specs.Script.{Script}
use Rattle.mg_model.specs.Shards.{HasIdentifiersLeft}
use Rattle.mg_model.specs.Tables.{state_of}
use Rattle.mg_model.specs.World.{World, Opened, IsOpening, Occurs}

-- an entry of the log: a step other than a restart of a call of the plan, in which state the call was that stood, and the event that it was, none where it was
-- idle; the end of an epoch of all calls, at which the gateway restarts; or a restart that some call of the plan asked for, on this gateway or on another one
pub data LogEntry : Type 0 where
  took : (first : ℕ) → PlanStep → (state : ℕ) → Option Event → LogEntry
  epoch_ended : LogEntry
  restarted : (by : ℕ) → LogEntry

-- what a step came to, in this world, for this agent
abbrev pub ComesTo : Script → World → Agent → (next : ℕ) → PlanStep → Option Event → World → Type 0
ComesTo script w a next step (Some event) after = Means w a next step event × Occurs script w event after
ComesTo script w a next step None after =
    (after ≡ w) × ((event : Event) (world : World) → Means w a next step event → Occurs script w event world → ⊥)

-- a step of a call of the plan, by the agent of the call that stands of it and those that began within it, in this state, and what it came to
pub record StepTaken (script : Script) (w : World) (first : ℕ) (step : PlanStep) (state : ℕ) (told : Option Event) (after : World) : Type 0 where
  pub few : first < plan_calls
  pub begun : ℕ
  pub agent : Agent
  pub stands : w.agent (number_begun first begun) ≡ Some agent
  pub of_state : state ≡ agent.state
  pub no_restart : step ≡ Restarts → ⊥
  pub comes : ComesTo script w agent (number_begun first (begun + 1)) step told after

-- the entries are what happened from one world to another; before each, identifiers are left
unfoldable pub LogRuns : Script → List LogEntry → World → World → Type 0
LogRuns script [] w end = end ≡ w
LogRuns script (took first step state told ∷ more) w end =
    HasIdentifiersLeft w
    × ((after : World) × (StepTaken script w first step state told after × LogRuns script more after end))
LogRuns script (epoch_ended ∷ more) w end =
    HasIdentifiersLeft w × ((after : World) × (Occurs script w Restart after × LogRuns script more after end))
LogRuns script (restarted by ∷ more) w end =
    HasIdentifiersLeft w × ((after : World) × (Occurs script w Restart after × LogRuns script more after end))

-- ---- a call's own entries

-- its steps, with a restart where an epoch ended or it asked for one
abbrev pub steps_logged : (first : ℕ) → List LogEntry → List PlanStep
steps_logged first [] = []
steps_logged first (took other step state told ∷ more) = if other == first then step ∷ steps_logged first more else steps_logged first more
steps_logged first (epoch_ended ∷ more) = Restarts ∷ steps_logged first more
steps_logged first (restarted by ∷ more) = if by == first then Restarts ∷ steps_logged first more else steps_logged first more

-- the restarts that others asked for
abbrev pub restarts_logged : (first : ℕ) → List LogEntry → ℕ
restarts_logged first [] = 0
restarts_logged first (took other step state told ∷ more) = restarts_logged first more
restarts_logged first (epoch_ended ∷ more) = restarts_logged first more
restarts_logged first (restarted by ∷ more) = if by == first then restarts_logged first more else suc (restarts_logged first more)

-- what is counted of it: the lines of those that are retired, and the events and idle steps of the one that stands
pub record Counted : Type 0 where
  pub retired : List ReportLine
  pub events : ℕ
  pub idle : ℕ

abbrev pub none_counted : Counted
none_counted = record { retired = []; events = 0; idle = 0 }

abbrev pub count_step : Script → PlanStep → (state : ℕ) → Option Event → Counted → Counted
count_step script Begins state (Some event) c = record {
  retired = c.retired ++ record { state = (state_of script state).name; phase = codes "retired"; events = c.events; idle = c.idle } ∷ [];
  events = 1;
  idle = 0;
}
count_step script step state (Some event) c = record c { events = c.events + 1 }
count_step script step state None c = record c { idle = c.idle + 1 }

-- entry by entry; the entries of other calls and the restarts leave it
abbrev pub counted : Script → (first : ℕ) → List LogEntry → Counted → Counted
counted script first [] c = c
counted script first (took other step state told ∷ more) c = counted script first more (if other == first then count_step script step state told c else c)
counted script first (epoch_ended ∷ more) c = counted script first more c
counted script first (restarted by ∷ more) c = counted script first more c

-- the line of the call that stands
abbrev pub line_counted : Script → World → Agent → Counted → ReportLine
line_counted script w a c = record {
  state = (state_of script a.state).name;
  phase = phase_word (a.association == w.gateway.association) (state_of script a.state).is_end a.phase;
  events = c.events;
  idle = c.idle;
}

-- a log tells the report of each call of its opening: a call that is counted from it stands at its end, and the lines are those of some run of it alone, by its
-- own steps, with the restarts that others asked for. Where no obligation is broken, no state has more than 16 commands and identifiers are left before each step
abbrev pub LogsTellReports : Type 0
LogsTellReports =
    (script : Script) (entries : List Entry) → IsScript script → All (IsEntryOf script) entries → NoneBroken script entries → HasFewCommands script
    → (calls : List Opened) → ((one : Opened) → Contains calls one → one.call < plan_calls) → (start : World) → IsOpening script calls start
    → (log : List LogEntry) (end : World) → LogRuns script log start end → (one : Opened) → Contains calls one
    → let c = counted script one.call log none_counted in
    (a : Agent) × ((end.agent (number_begun one.call (length c.retired)) ≡ Some a)
    × IsReported script one (steps_logged one.call log) (restarts_logged one.call log) (c.retired ++ line_counted script end a c ∷ []))

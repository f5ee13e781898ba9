-- What the report of a plan says of each call. A reader should check which message each step of a plan delivers, that a step which can't happen is
-- counted idle, that a call is told as if it alone, with all that begin on its lines, was run on a gateway of its own, and that the restarts of other
-- calls may stand anywhere among its steps. This profile's own.
use Rattle.std.specs.Prelude.{◌≡◌, ℕ, suc, ◌+◌, ◌≤◌, ◌==◌, Bool, true, false, ◌&&◌, IsTrue, if◌then◌else◌, List, [], ◌∷◌, ◌++◌, Contains, Option, Some, None, ◌⊎◌, codes}
use Rattle.std.specs.List.{find}
use Rattle.mg_model.specs.declared.failures.ChosenRefusal.{ChosenRefusal}
use Rattle.mg_model.specs.declared.failures.Refusal.TheVariants.{InternalFailure}
use Rattle.mg_model.specs.declared.line_events.Hook.TheVariants.{On, Off}
use Rattle.mg_model.specs.declared.line_events.LineEvent.TheVariants.{Hook, Flash, Digit, Pause, SignalEnd}
use Rattle.mg_model.specs.declared.events.Event.{Event}
use Rattle.mg_model.specs.declared.events.Event.TheVariants.{Restart}
use Rattle.mg_model.specs.Agent.{Agent, Phase, awaits_reply, awaits_pass, resting, inbox_of}
use Rattle.mg_model.specs.Delivery.{is_new, arrival}
use Rattle.mg_model.specs.Messages.{Request, Reply, SentNote}
use Rattle.mg_model.specs.declared.plans.PlanStep.{PlanStep}
use Rattle.mg_model.specs.declared.plans.PlanStep.TheVariants.{GoesOff, GoesOn, Flashes, Dials, Pauses, Ends, Executes, TakesReply, Passes, TakesNote, TimesOut, Hears, Begins, Restarts}
use Rattle.mg_model.specs.Plans.{PlanCall, Plan, epochs_of, steps_in, restarts_of_others, opened_as, number_begun}
use Rattle.mg_model.specs.Script.{Script}
use Rattle.mg_model.specs.Tables.{state_of}
use Rattle.mg_model.specs.World.{World, on_a_line, execute, reply, pass, note, timer, begin, hear, Occurs, Opened, IsOpening}

-- ---- which event a step means

abbrev pub is_of : ℕ → Option ℕ → ℕ → ℕ → Bool
is_of call None of number = of == call
is_of call (Some n) of number = of == call && number == n

-- messages are kept newest first, so the first that fits is the latest
abbrev pub MeansRequest : World → ℕ → Option ℕ → Request → Type 0
MeansRequest w call which request = find (λ (r : Request). is_of call which r.call r.number) w.requests ≡ Some request

abbrev pub MeansReply : World → ℕ → Option ℕ → Reply → Type 0
MeansReply w call which answer = find (λ (r : Reply). is_of call which r.call r.number) w.replies ≡ Some answer

-- a note of the call that is new to the agent's inbox
abbrev pub is_waiting : Agent → SentNote → Bool
is_waiting a sent = sent.call == a.call && is_new (arrival (inbox_of a) sent.association sent.number)

abbrev pub MeansNote : World → Agent → Option ℕ → SentNote → Type 0
MeansNote w a None sent =
    Contains w.notes sent × (is_waiting a sent ≡ true)
    × ((other : SentNote) → Contains w.notes other → is_waiting a other ≡ true → sent.number ≤ other.number)
MeansNote w a (Some n) sent = Contains w.notes sent × (sent.call ≡ a.call) × (sent.number ≡ n)

abbrev pub refusal_at : Option ℕ → Option ChosenRefusal
refusal_at None = None
refusal_at (Some place) = Some (record { place = place; refusal = InternalFailure })

-- the step means the event, in this world, for this agent, where the next call to begin has this number
abbrev pub Means : World → Agent → (next : ℕ) → PlanStep → Event → Type 0
Means w a next (GoesOff l) event = event ≡ on_a_line a.call (a.lines l) (Hook Off)
Means w a next (GoesOn l) event = event ≡ on_a_line a.call (a.lines l) (Hook On)
Means w a next (Flashes l) event = event ≡ on_a_line a.call (a.lines l) Flash
Means w a next (Dials l s) event = event ≡ on_a_line a.call (a.lines l) (Digit s)
Means w a next (Pauses l) event = event ≡ on_a_line a.call (a.lines l) Pause
Means w a next (Ends l s) event = event ≡ on_a_line a.call (a.lines l) (SignalEnd s)
Means w a next (Executes which place) event =
    (request : Request) × MeansRequest w a.call which request × (event ≡ execute a.call request.number (refusal_at place))
Means w a next (TakesReply which) event = (answer : Reply) × MeansReply w a.call which answer × (event ≡ reply a.call answer.number)
Means w a next Passes event = event ≡ pass a.call
Means w a next (TakesNote which) event = (sent : SentNote) × MeansNote w a which sent × (event ≡ note a.call sent.number)
Means w a next TimesOut event = event ≡ timer a.call
Means w a next Hears event = event ≡ hear a.call w.gateway.association
Means w a next Begins event = event ≡ begin next a.call
Means w a next Restarts event = event ≡ Restart

-- ---- a report's line

-- what the report says of a call: its state's name, its phase, and how many of its steps were events and how many idle
pub record ReportLine : Type 0 where
  pub state : List ℕ
  pub phase : List ℕ
  pub events : ℕ
  pub idle : ℕ

abbrev pub phase_word : Bool → Bool → Phase → List ℕ
phase_word false is_end phase = codes "lost"
phase_word true is_end (awaits_reply request) = codes "waiting"
phase_word true is_end awaits_pass = codes "waiting"
phase_word true is_end resting = if is_end then codes "ended" else codes "resting"

-- ---- a call of the plan alone, with all that begin within it

-- how far it is: the world, the call that stands, how many began before it, its events and idle steps so far, and the lines of those
-- that are retired
pub record Progress : Type 0 where
  pub world : World
  pub standing : ℕ
  pub begun : ℕ
  pub events : ℕ
  pub idle : ℕ
  pub retired : List ReportLine

abbrev pub start_as : Opened → World → Progress
start_as one w = record { world = w; standing = one.call; begun = 0; events = 0; idle = 0; retired = [] }

-- the line of the call that stands
abbrev pub line_now : Script → Agent → Progress → ReportLine
line_now script a p = record {
  state = (state_of script a.state).name;
  phase = phase_word (a.association == p.world.gateway.association) (state_of script a.state).is_end a.phase;
  events = p.events;
  idle = p.idle;
}

-- its line once it is retired
abbrev pub line_retired : Script → Agent → Progress → ReportLine
line_retired script a p = record (line_now script a p) { phase = codes "retired" }

-- after an event: one more of the standing call. A call that begins stands from then on, with that event as its first. A restart is
-- no call's event
abbrev pub after_event : Script → (first : ℕ) → Agent → Progress → PlanStep → World → Progress
after_event script first a p Begins w = record {
  world = w;
  standing = number_begun first (p.begun + 1);
  begun = p.begun + 1;
  events = 1;
  idle = 0;
  retired = p.retired ++ line_retired script a p ∷ [];
}
after_event script first a p Restarts w = record p { world = w }
after_event script first a p step w = record p { world = w; events = p.events + 1 }

-- the step happens
pub record StepHappens (script : Script) (first : ℕ) (p : Progress) (step : PlanStep) (after : Progress) : Type 0 where
  pub agent : Agent
  pub event : Event
  pub world : World
  pub stands : p.world.agent p.standing ≡ Some agent
  pub means : Means p.world agent (number_begun first (p.begun + 1)) step event
  pub occurs : Occurs script p.world event world
  pub after_is : after ≡ after_event script first agent p step world

-- no event that it means can happen; a restart is never idle
pub record StepIsIdle (script : Script) (first : ℕ) (p : Progress) (step : PlanStep) (after : Progress) : Type 0 where
  pub agent : Agent
  pub stands : p.world.agent p.standing ≡ Some agent
  pub no_restart : step ≡ Restarts → ⊥
  pub cannot : (event : Event) (world : World) → Means p.world agent (number_begun first (p.begun + 1)) step event
      → Occurs script p.world event world → ⊥
  pub after_is : after ≡ record p { idle = p.idle + 1 }

unfoldable pub StepsRun : Script → (first : ℕ) → List PlanStep → Progress → Progress → Type 0
StepsRun script first [] p end = end ≡ p
StepsRun script first (step ∷ more) p end =
    (next : Progress) × (StepHappens script first p step next ⊎ StepIsIdle script first p step next) × StepsRun script first more next end

-- ---- where the restarts of other calls stand

-- the call's steps, with as many restarts more, each anywhere among them
unfoldable pub IsPlacing : List PlanStep → (others : ℕ) → List PlanStep → Type 0
IsPlacing steps others [] = (steps ≡ []) × (others ≡ 0)
IsPlacing steps others (step ∷ placed) =
    ((more : List PlanStep) × (steps ≡ step ∷ more) × IsPlacing more others placed)
    ⊎ ((fewer : ℕ) × (step ≡ Restarts) × (others ≡ suc fewer) × IsPlacing steps fewer placed)

-- ---- the report

-- the lines of a call and of those that began within it are those of some run of it alone
pub record IsReported (script : Script) (one : Opened) (steps : List PlanStep) (others : ℕ) (lines : List ReportLine) : Type 0 where
  pub placed : List PlanStep
  pub placing : IsPlacing steps others placed
  pub start : World
  pub end : Progress
  pub agent : Agent
  pub opens : IsOpening script (one ∷ []) start
  -- its gateway may give every number
  pub every_number : (n : ℕ) → IsTrue (start.gateway.board.class n)
  pub runs : StepsRun script one.call placed (start_as one start) end
  pub stands : end.world.agent end.standing ≡ Some agent
  pub lines_are : lines ≡ end.retired ++ line_now script agent end ∷ []

-- the lines of these calls of a plan, of which the first has this number
unfoldable pub AreReported : Script → Plan → (number : ℕ) → List PlanCall → List (List ReportLine) → Type 0
AreReported script plan number [] [] = Unit {0}
AreReported script plan number (call ∷ more) (lines ∷ others) =
    IsReported script (opened_as number call) (steps_in (epochs_of plan.calls) call.epochs) (restarts_of_others plan call) lines
    × AreReported script plan (number + 1) more others
AreReported script plan number calls lines = ⊥

-- the report of a plan: for each call its line, then those of the calls that began within it
abbrev pub IsReport : Script → Plan → List (List ReportLine) → Type 0
IsReport script plan lines = AreReported script plan 0 plan.calls lines

-- The statements of the laws. Each is carried by an empty function of the same name.
use Rattle.std.specs.Prelude.{◌≡◌, ℕ, false, List, Contains, Option, None, ◌↔◌}
use Rattle.std.specs.List.{All}
use Rattle.mg_model.specs.declared.events.CallEvent.{CallEvent}
use Rattle.mg_model.specs.declared.events.CallEvent.TheVariants as to_call
use Rattle.mg_model.specs.declared.events.Event.{Event}
use Rattle.mg_model.specs.declared.events.Event.TheVariants.{Restart}
use Rattle.mg_model.specs.declared.failures.ChosenRefusal.{ChosenRefusal}
use Rattle.mg_model.specs.Accepted.{IsScript, IsEntryOf}
use Rattle.mg_model.specs.Agent.{Agent, entered, replied, passed, noted, timed, heard, begun}
use Rattle.mg_model.specs.Entries.{Entry}
use Rattle.mg_model.specs.Messages.{Reply, SentNote}
use Rattle.mg_model.specs.Obligations.{NoneBroken}
use Rattle.mg_model.specs.Script.{Script}
use Rattle.mg_model.specs.Shards.{HasIdentifiersLeft}
use Rattle.mg_model.specs.World.{World, Opened, Begins, IsOpening, OccursTo, Occurs, Runs, execute}
use Rattle.mg_safety.specs.Laws.{IsRetiredBy}
use Rattle.mg_alike.specs.Agents.{AgentsAlike, StepsAlike}
use Rattle.mg_alike.specs.Messages.{RepliesAlike}
use Rattle.mg_alike.specs.Renaming.{Renaming, IsRenaming}
use Rattle.mg_alike.specs.Worlds.{TreatAlike}

-- ---- the steps of an agent

pub record StepAlike (script : Script) (r : Renaming) (a b : Agent) : Type 0 where
  pub entered : (state : ℕ) → StepsAlike r (entered script a state) (entered script b state)
  pub replied : (one other : Reply) → RepliesAlike r one other → StepsAlike r (replied script a one) (replied script b other)
  pub passed : StepsAlike r (passed script a) (passed script b)
  pub noted : (places : List ℕ) (sent : SentNote) → StepsAlike r (noted script a places sent) (noted script b places sent)
  pub timed : StepsAlike r (timed script a) (timed script b)
  pub heard : (association : ℕ) → StepsAlike r (heard script a association) (heard script b association)
  pub begun : (call : ℕ) → AgentsAlike r (begun script call a) (begun script call b)

-- agents that are alike step alike: by the same reply, but for the renaming, by a pass, the same note, the timer and the same association. Nothing is
-- asked of the script or of the worlds around them
abbrev pub AgentsStepAlike : Type 0
AgentsStepAlike = (script : Script) (r : Renaming) (a b : Agent) → IsRenaming r → AgentsAlike r a b → StepAlike script r a b

-- ---- events of a call

-- two worlds of runs, of any calls, in which no obligation of the script and its certificate is broken
pub record AreReached (script : Script) (w v : World) : Type 0 where
  pub entries : List Entry
  pub is_script : IsScript script
  pub listed : All (IsEntryOf script) entries
  pub none_broken : NoneBroken script entries
  pub calls : List Opened
  pub others : List Opened
  pub events : List Event
  pub history : List Event
  pub start : World
  pub first : World
  pub opens : IsOpening script calls start
  pub also_opens : IsOpening script others first
  pub runs : Runs script events start w
  pub also_runs : Runs script history first v

-- a request of a call that reaches both gateways, in which identifiers are left: whatever they choose, they treat the call alike after it
abbrev pub ExecutesAlike : Type 0
ExecutesAlike =
    (script : Script) (w v : World) → AreReached script w v → HasIdentifiersLeft w → HasIdentifiersLeft v → (call number : ℕ) (chosen : Option ChosenRefusal) → TreatAlike w v call
    → (after next : World) → Occurs script w (execute call number chosen) after → Occurs script v (execute call number chosen) next
    → TreatAlike after next call

-- the call begins with it, on the lines of another one
abbrev pub IsBeginning : CallEvent → Type 0
IsBeginning (to_call.Begin old) = Unit {0}
IsBeginning happens = ⊥

-- the same of each event of a call that is open: of its lines, its requests, replies and notes, its agent and its timer
abbrev pub EventsAlike : Type 0
EventsAlike =
    (script : Script) (w v : World) → AreReached script w v → HasIdentifiersLeft w → HasIdentifiersLeft v → (call : ℕ) (happens : CallEvent) → (IsBeginning happens → ⊥) → TreatAlike w v call
    → (after next : World) → OccursTo script w call happens after → OccursTo script v call happens next → TreatAlike after next call

-- and of a restart of both gateways. Nothing is asked of the worlds
abbrev pub RestartsAlike : Type 0
RestartsAlike =
    (script : Script) (w v : World) (call : ℕ) → TreatAlike w v call → (after next : World) → Occurs script w Restart after
    → Occurs script v Restart next → TreatAlike after next call

-- ---- what can happen

-- an event of a call can happen in the one world exactly where it can happen in the other
abbrev pub EventsHappenAlike : Type 0
EventsHappenAlike =
    (script : Script) (w v : World) → AreReached script w v → HasIdentifiersLeft w → HasIdentifiersLeft v → (call : ℕ) (happens : CallEvent)
    → (IsBeginning happens → ⊥) → TreatAlike w v call
    → ((after : World) × OccursTo script w call happens after) ↔ ((next : World) × OccursTo script v call happens next)

-- ---- events of other calls

-- an event of another call leaves two worlds that treat this one alike as alike; but for one that begins on its lines
abbrev pub OthersLeaveAlike : Type 0
OthersLeaveAlike =
    (script : Script) (w v : World) → AreReached script w v → (call other : ℕ) (happens : CallEvent) → (other ≡ call → ⊥) → (IsRetiredBy happens call → ⊥)
    → TreatAlike w v call → (after : World) → OccursTo script w other happens after → TreatAlike after v call

-- ---- openings

-- two openings treat a call alike that is of both, on the same lines
abbrev pub OpeningsTreatAlike : Type 0
OpeningsTreatAlike =
    (script : Script) (calls others : List Opened) (one : Opened) (w v : World) → IsOpening script calls w → IsOpening script others v → Contains calls one
    → Contains others one → TreatAlike w v one.call

-- ---- the other way round

-- where one world treats a call as another does, the other treats it as the one does
abbrev pub TreatmentIsMutual : Type 0
TreatmentIsMutual = (w v : World) (call : ℕ) → TreatAlike w v call → TreatAlike v w call

-- ---- a call that begins on the lines of one that has ended

-- where two worlds treat alike a call that has ended, they treat alike the one that begins on its lines in both
abbrev pub BeginningsAlike : Type 0
BeginningsAlike =
    (script : Script) (w v : World) → AreReached script w v → (call old : ℕ) → TreatAlike w v old → (after next : World)
    → Begins script w call old after → Begins script v call old next → TreatAlike after next call

-- and it can begin in the one where it can in the other, if its number is not used there
abbrev pub BeginningsHappenAlike : Type 0
BeginningsHappenAlike =
    (script : Script) (w v : World) → AreReached script w v → (call old : ℕ) → TreatAlike w v old → (after : World) → Begins script w call old after
    → v.agent call ≡ None → v.gateway.retired call ≡ false → (next : World) × Begins script v call old next

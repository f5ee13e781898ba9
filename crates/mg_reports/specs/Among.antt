-- A call of a plan among others on one gateway: its own steps, and what else happens there. A reader should check that each own step is an event or idle by
-- the rule of the report, in the world in which all calls are, and that what else happens is of calls with other numbers. This profile's own.
use Rattle.std.specs.Prelude.{◌≡◌, ℕ, suc, ◌%◌, ◌<◌, List, [], ◌∷◌, ◌++◌, Contains, Some, ◌⊎◌}
use Rattle.std.specs.List.{All}
use Rattle.mg_model.specs.declared.events.Event.{Event}
use Rattle.mg_model.specs.declared.events.Event.TheVariants.{OfCall, Restart}
use Rattle.mg_model.specs.declared.plans.PlanStep.{PlanStep}
use Rattle.mg_model.specs.Accepted.{HasFewCommands, IsEntryOf, IsScript}
use Rattle.mg_model.specs.Agent.{Agent}
use Rattle.mg_model.specs.Entries.{Entry}
use Rattle.mg_model.specs.Numbers.{plan_calls}
use Rattle.mg_model.specs.Obligations.{NoneBroken}
use Rattle.mg_model.specs.Reports.{IsReported, Progress, StepHappens, StepIsIdle, line_now, start_as}
use Rattle.mg_model.specs.Script.{Script}
use Rattle.mg_model.specs.Shards.{HasIdentifiersLeft}
use Rattle.mg_model.specs.World.{World, Opened, IsOpening, Occurs}

-- what comes next on the gateway: a step of the call, or an event that is none of its own steps
pub data Turn : Type 0 where
  own : PlanStep → Turn
  beside : Event → Turn

-- the calls that begin within call `first` of a plan have the numbers that are `first` but for multiples of 10,000
abbrev pub IsWithin : (first number : ℕ) → Type 0
IsWithin first number = number % plan_calls ≡ first

-- an event of a call that isn't within it, or a restart
abbrev pub IsBeside : (first : ℕ) → Event → Type 0
IsBeside first (OfCall call happens) = IsWithin first call.0 → ⊥
IsBeside first Restart = Unit {0}

-- it goes by these turns; before each of its own steps, identifiers are left
unfoldable pub GoesAmong : Script → (first : ℕ) → List Turn → Progress → Progress → Type 0
GoesAmong script first [] p end = end ≡ p
GoesAmong script first (own step ∷ more) p end =
    HasIdentifiersLeft p.world
    × ((next : Progress) × ((StepHappens script first p step next ⊎ StepIsIdle script first p step next) × GoesAmong script first more next end))
GoesAmong script first (beside event ∷ more) p end =
    IsBeside first event × ((next : World) × (Occurs script p.world event next × GoesAmong script first more (record p { world = next }) end))

-- its own steps, and how many restarts stand beside them
abbrev pub own_steps : List Turn → List PlanStep
own_steps [] = []
own_steps (own step ∷ more) = step ∷ own_steps more
own_steps (beside event ∷ more) = own_steps more

abbrev pub restarts_beside : List Turn → ℕ
restarts_beside [] = 0
restarts_beside (own step ∷ more) = restarts_beside more
restarts_beside (beside (OfCall call happens) ∷ more) = restarts_beside more
restarts_beside (beside Restart ∷ more) = suc (restarts_beside more)

-- the lines of a call among any others are those of a run of it alone, by its own steps, where the restarts beside them stand among these. Of an opening in
-- which no other call is within it; where no obligation is broken, no state has more than 16 commands and identifiers are left before its steps. The call
-- stands at the end, so none with another number began on its lines
abbrev pub ReportsAmongOthers : Type 0
ReportsAmongOthers =
    (script : Script) (entries : List Entry) → IsScript script → All (IsEntryOf script) entries → NoneBroken script entries → HasFewCommands script
    → (calls : List Opened) (one : Opened) → Contains calls one → one.call < plan_calls
    → ((other : Opened) → Contains calls other → IsWithin one.call other.call → other.call ≡ one.call)
    → (start : World) → IsOpening script calls start → (turns : List Turn) (end : Progress) → GoesAmong script one.call turns (start_as one start) end
    → (a : Agent) → end.world.agent end.standing ≡ Some a
    → IsReported script one (own_steps turns) (restarts_beside turns) (end.retired ++ line_now script a end ∷ [])

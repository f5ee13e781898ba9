-- The statements of the laws that identifiers last, each of which an empty function carries: a run of as many executes as a plan may have goes as a shard's
-- run has to, and identifiers are left at its end too. A reader should check the numbers, and that what they ask of the class is what each of up to sixteen
-- shards has.
use Rattle.std.specs.Prelude.{◌≡◌, ℕ, ◌+◌, ◌%◌, ◌<◌, ◌≤◌, IsTrue, List, [], ◌∷◌}
use Rattle.mg_model.specs.declared.events.CallEvent.TheVariants as to_call
use Rattle.mg_model.specs.declared.events.Event.{Event}
use Rattle.mg_model.specs.declared.events.Event.TheVariants.{OfCall}
use Rattle.mg_model.specs.Accepted.{HasFewCommands}
use Rattle.mg_model.specs.Script.{Script}
use Rattle.mg_model.specs.Shards.{HasIdentifiersLeft, RunsWithin}
use Rattle.mg_model.specs.World.{World, Opened, Runs, IsOpening}

-- the most shards that share the identifiers
abbrev pub most_shards : ℕ
most_shards = 16

-- the most executes of a plan: 10,000 calls of 1,000 steps each
abbrev pub most_executes : ℕ
most_executes = 10000000

-- 1 for an execute, and 0 for any other event
abbrev pub executes_of : Event → ℕ
executes_of (OfCall call (to_call.Execute number chosen)) = 1
executes_of event = 0

-- how many of these events are executes
unfoldable pub executes_in : List Event → ℕ
executes_in [] = 0
executes_in (event ∷ more) = executes_of event + executes_in more

-- where no state has more commands, and the gateway gives each number of one class, each run from an opening that has no more executes
-- than a plan may have is a run in which identifiers are left before each event
abbrev pub IdentifiersLast : Type 0
IdentifiersLast =
    (script : Script) (calls : List Opened) (history : List Event) (start end : World) (first stride : ℕ)
    → HasFewCommands script → first < stride → stride ≤ most_shards
    → ((n : ℕ) → n % stride ≡ first → IsTrue (start.gateway.board.class n))
    → IsOpening script calls start → Runs script history start end → executes_in history ≤ most_executes
    → RunsWithin script history start end

-- and at its end as well
abbrev pub IdentifiersAreLeft : Type 0
IdentifiersAreLeft =
    (script : Script) (calls : List Opened) (history : List Event) (start end : World) (first stride : ℕ)
    → HasFewCommands script → first < stride → stride ≤ most_shards
    → ((n : ℕ) → n % stride ≡ first → IsTrue (start.gateway.board.class n))
    → IsOpening script calls start → Runs script history start end → executes_in history ≤ most_executes
    → HasIdentifiersLeft end

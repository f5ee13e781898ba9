-- The laws of systems. A reader should check that a system begins with a new gateway and calls that are opened on it, and goes on by any deeds
-- in any order.
use Rattle.std.specs.Prelude.{ℕ, List}
use Rattle.mg_model.specs.declared.events.Event.{Event}
use Rattle.mg_model.specs.Script.{Script}
use Rattle.mg_model.specs.World.{Opened, IsOpening, Runs, IsGood}
use Rattle.mg_safety.specs.Headline.{RunsAreGood}
use Rattle.systems.specs.Openings.{AreOpened}
use Rattle.systems.specs.Systems.{System, Makes, world_of}

-- the world of a system whose calls were opened is an opening, and all that is made of it is a world of a run
abbrev pub SystemsAreRuns : Type 0
SystemsAreRuns =
    (script : Script) (calls : List Opened) (n : ℕ) (s t : System) → AreOpened script calls s → Makes n s t
    → IsOpening script calls (world_of s) × ((events : List Event) × Runs script events (world_of s) (world_of t))

-- where every run of the script is good, so is each such world
abbrev pub SystemsAreGood : Type 0
SystemsAreGood =
    (script : Script) (calls : List Opened) (n : ℕ) (s t : System) → RunsAreGood script → AreOpened script calls s → Makes n s t
    → IsGood script (world_of t)

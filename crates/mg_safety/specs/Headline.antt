-- The promise over runs. A reader should check that its only premises are these: the script and the certificate are as their readers
-- accept them, no obligation is broken, and the gateway, the agents and the network step as `mg_model` writes it.
use Rattle.std.specs.Prelude.{List, [], ◌∷◌}
use Rattle.std.specs.List.{All}
use Rattle.mg_model.specs.Entries.{Entry}
use Rattle.mg_model.specs.Obligations.{NoneBroken}
use Rattle.mg_model.specs.Script.{Script}
use Rattle.mg_model.specs.declared.events.Event.{Event}
use Rattle.mg_model.specs.World.{World, Opened, IsOpening, Runs, IsGood}
use Rattle.mg_model.specs.Accepted.{IsScript, IsEntryOf}

-- in every run of any number of calls, on lines distinct at each moment, every world is good: each prefix of a run is a run. The calls are those
-- of the opening and all that begin on the lines of ended ones
abbrev pub RunsAreGood : Script → Type 0
RunsAreGood script =
    (calls : List Opened) (events : List Event) (opening end : World) → IsOpening script calls opening → Runs script events opening end
    → IsGood script end

abbrev pub EveryRunIsGood : Type 0
EveryRunIsGood =
    (script : Script) (entries : List Entry) → IsScript script → All (IsEntryOf script) entries → NoneBroken script entries → RunsAreGood script

-- the same of one call, with all that begin on its lines
abbrev pub EveryRunOfOneCallIsGood : Type 0
EveryRunOfOneCallIsGood =
    (script : Script) (entries : List Entry) → IsScript script → All (IsEntryOf script) entries → NoneBroken script entries
    → (call : Opened) (events : List Event) (opening end : World) → IsOpening script (call ∷ []) opening
    → Runs script events opening end → IsGood script end

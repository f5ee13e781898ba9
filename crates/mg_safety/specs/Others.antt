-- What an event of one call leaves alone, in every run. A reader should check that a line is owned by the call that holds it and an ephemeral by the call that
-- created it, that the row of each is as it was, and that so is each cut between two of them.
use Rattle.std.specs.Prelude.{◌≡◌, ℕ, List, Some}
use Rattle.std.specs.List.{All}
use Rattle.mg_names.specs.declared.identifiers.TermId.{TermId}
use Rattle.mg_names.specs.declared.identifiers.TermId.TheVariants.{Line, Eph}
use Rattle.mg_model.specs.declared.events.CallEvent.{CallEvent}
use Rattle.mg_model.specs.declared.events.Event.{Event}
use Rattle.mg_model.specs.Accepted.{IsScript, IsEntryOf}
use Rattle.mg_model.specs.Entries.{Entry}
use Rattle.mg_model.specs.Obligations.{NoneBroken}
use Rattle.mg_model.specs.Script.{Script}
use Rattle.mg_model.specs.World.{World, Opened, IsOpening, OccursTo, Runs}
use Rattle.mg_safety.specs.Laws.{IsRetiredBy, IsSameFor}

abbrev pub IsOwnedBy : World → ℕ → TermId → Type 0
IsOwnedBy w call (Line l) = w.gateway.holder l.0 ≡ Some call
IsOwnedBy w call (Eph x) = w.gateway.creator x ≡ Some call

pub record IsLeftAlone (w after : World) (call : ℕ) : Type 0 where
  pub row : (t : TermId) → IsOwnedBy w call t → after.gateway.board.row t ≡ w.gateway.board.row t
  pub cut : (t u : TermId) → IsOwnedBy w call t → IsOwnedBy w call u → after.gateway.board.cut t u ≡ w.gateway.board.cut t u

-- where no obligation is broken, an event of a call leaves what another one owns as it was
abbrev pub OthersAreLeftAlone : Type 0
OthersAreLeftAlone =
    (script : Script) (entries : List Entry) → IsScript script → All (IsEntryOf script) entries → NoneBroken script entries
    → (calls : List Opened) (events : List Event) (opening end after : World) → IsOpening script calls opening → Runs script events opening end
    → (call other : ℕ) (happens : CallEvent) → OccursTo script end call happens after → (call ≡ other → ⊥) → IsLeftAlone end after other

-- and in every run it leaves the agent and the link of another one as they were, and no message of it is new, but of the one that it retires
abbrev pub OthersAreKept : Type 0
OthersAreKept =
    (script : Script) (calls : List Opened) (events : List Event) (opening end after : World) → IsOpening script calls opening
    → Runs script events opening end → (call other : ℕ) (happens : CallEvent) → OccursTo script end call happens after
    → (call ≡ other → ⊥) → (IsRetiredBy happens other → ⊥) → IsSameFor end after other

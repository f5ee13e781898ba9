-- What a call has by itself of what is asked of it before another begins on its lines. A reader should check that of a call that has ended nothing more
-- than the rows of its lines is asked, and that a call of an older association never gives its lines away.
use Rattle.std.specs.Prelude.{◌≡◌, ℕ, ◌<◌, List, length, Some}
use Rattle.std.specs.List.{All}
use Rattle.mg_names.specs.declared.identifiers.TermId.TheVariants.{Line}
use Rattle.mg_model.specs.declared.events.Event.{Event}
use Rattle.mg_model.specs.Accepted.{IsScript, IsEntryOf}
use Rattle.mg_model.specs.Agent.{Agent}
use Rattle.mg_model.specs.Board.{null_row}
use Rattle.mg_model.specs.Entries.{Entry}
use Rattle.mg_model.specs.Gateway.{MayBegin}
use Rattle.mg_model.specs.Obligations.{NoneBroken}
use Rattle.mg_model.specs.Script.{Script}
use Rattle.mg_model.specs.World.{World, Opened, IsOpening, Runs, HasEnded}
use Rattle.mg_model.specs.Numbers.{the_line}

-- what holds of each call that is open in the last world of a run, where no obligation is broken
abbrev pub OfCallsInRuns : (Script → World → ℕ → Agent → Type 0) → Type 0
OfCallsInRuns Holds =
    (script : Script) (entries : List Entry) → IsScript script → All (IsEntryOf script) entries → NoneBroken script entries
    → (calls : List Opened) (events : List Event) (opening end : World) → IsOpening script calls opening → Runs script events opening end
    → (call : ℕ) (a : Agent) → end.agent call ≡ Some a → Holds script end call a

-- nothing is set on the call's lines, which stand in the null context
abbrev pub LinesAreIdle : Script → World → Agent → Type 0
LinesAreIdle script w a = (i : ℕ) → i < length script.lines → w.gateway.board.row (Line (the_line (a.lines i))) ≡ Some null_row

abbrev pub EndedCallsMayBegin : Type 0
EndedCallsMayBegin = OfCallsInRuns (λ script w call a. HasEnded script w a → LinesAreIdle script w a → MayBegin w.gateway call)

abbrev pub LostCallsMayNotBegin : Type 0
LostCallsMayNotBegin =
    OfCallsInRuns (λ script w call a. a.association < w.gateway.association → 0 < length script.lines → MayBegin w.gateway call → ⊥)

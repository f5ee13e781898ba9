-- A call among others, and the same call alone on a gateway. A reader should check that alone it has its own events, each one and in their order, and the
-- restarts; and that nothing is asked of the other calls but that they are calls of a run.
use Rattle.std.specs.Prelude.{◌≡◌, ℕ, ◌+◌, ◌%◌, ◌<◌, ◌≤◌, ◌==◌, ◌||◌, Bool, true, false, IsTrue, if◌then◌else◌, List, [], ◌∷◌, Contains, Some}
use Rattle.std.specs.List.{All}
use Rattle.mg_model.specs.declared.events.CallEvent.{CallEvent}
use Rattle.mg_model.specs.declared.events.CallEvent.TheVariants as to_call
use Rattle.mg_model.specs.declared.events.Event.{Event}
use Rattle.mg_model.specs.declared.events.Event.TheVariants.{OfCall, Restart}
use Rattle.mg_model.specs.Accepted.{HasFewCommands, IsEntryOf, IsScript, most_commands}
use Rattle.mg_model.specs.Agent.{Agent}
use Rattle.mg_model.specs.Entries.{Entry}
use Rattle.mg_model.specs.Items.{is_context_number, is_ephemeral_number}
use Rattle.mg_model.specs.Obligations.{NoneBroken}
use Rattle.mg_model.specs.Script.{Script}
use Rattle.mg_model.specs.Shards.{AreLeft, HasIdentifiersLeft, RunsWithin}
use Rattle.mg_model.specs.World.{World, Opened, IsOpening, Occurs, Runs}
use Rattle.mg_merge.specs.Identifiers.{most_shards}
use Rattle.mg_alike.specs.Worlds.{TreatAlike}

-- of a history the events of one call, and the restarts
abbrev pub events_alone : ℕ → List Event → List Event
events_alone call [] = []
events_alone call (OfCall one happens ∷ more) = if one.0 == call then OfCall one happens ∷ events_alone call more else events_alone call more
events_alone call (Restart ∷ more) = Restart ∷ events_alone call more

-- a call that is alone never runs out of identifiers, however it goes on
abbrev pub NeverRunsOut : Script → World → Type 0
NeverRunsOut script lone = (history : List Event) (v : World) → Runs script history lone v → HasIdentifiersLeft v

-- there is a run of the call alone, with its events and the restarts of this history, that treats it at its end as this world does
pub record IsTreatedAlone (script : Script) (call : ℕ) (events : List Event) (lone end : World) : Type 0 where
  pub last : World
  pub runs : Runs script (events_alone call events) lone last
  pub alike : TreatAlike end last call

-- where no obligation is broken, a call of any run in which identifiers are left goes as it would go alone: each other call may be any, do anything, and
-- lose, repeat or delay anything. The call is open at the end, so none began on its lines
abbrev pub CallsAreIsolated : Type 0
CallsAreIsolated =
    (script : Script) (entries : List Entry) → IsScript script → All (IsEntryOf script) entries → NoneBroken script entries
    → (calls : List Opened) (one : Opened) (events : List Event) (start end lone : World) → Contains calls one → IsOpening script calls start
    → IsOpening script (one ∷ []) lone → RunsWithin script events start end → NeverRunsOut script lone
    → (a : Agent) → end.agent one.call ≡ Some a → IsTreatedAlone script one.call events lone end

-- ---- identifiers of a call that is alone

-- the most contexts, and the most ephemerals, that a call has in use at once: it has at most four lines and four ephemerals
abbrev pub most_in_use : ℕ
most_in_use = 8

-- the gateway gives as many numbers of contexts and of ephemerals as a call has in use and a request may take
pub record HasEnoughNumbers (class : ℕ → Bool) : Type 0 where
  pub contexts : AreLeft (λ n. is_context_number n × IsTrue (class n)) (most_commands + most_in_use)
  pub ephemerals : AreLeft (λ k. is_ephemeral_number k × IsTrue (class k)) (most_commands + most_in_use)

-- where no obligation is broken and no state has more commands than that, a call that is alone, with those that begin on its lines, never runs out
abbrev pub CallsAloneNeverRunOut : Type 0
CallsAloneNeverRunOut =
    (script : Script) (entries : List Entry) → IsScript script → All (IsEntryOf script) entries → NoneBroken script entries → HasFewCommands script
    → (one : Opened) (lone : World) → IsOpening script (one ∷ []) lone → HasEnoughNumbers lone.gateway.board.class → NeverRunsOut script lone

-- ---- with the calls that begin on its lines

-- a call begins with it on the lines of this one
abbrev pub begins_on : ℕ → CallEvent → Bool
begins_on call (to_call.Begin old) = old.0 == call
begins_on call happens = false

-- the call that has the lines at the end of a history: this one, or the last that began on them
abbrev pub heir_of : ℕ → List Event → ℕ
heir_of call [] = call
heir_of call (OfCall one happens ∷ more) = if begins_on call happens then heir_of one.0 more else heir_of call more
heir_of call (Restart ∷ more) = heir_of call more

-- of a history the events of a call and of those that begin on its lines, one after the other, and the restarts
abbrev pub events_with_heirs : ℕ → List Event → List Event
events_with_heirs call [] = []
events_with_heirs call (OfCall one happens ∷ more) =
    if begins_on call happens then OfCall one happens ∷ events_with_heirs one.0 more
    else if one.0 == call then OfCall one happens ∷ events_with_heirs call more
    else events_with_heirs call more
events_with_heirs call (Restart ∷ more) = Restart ∷ events_with_heirs call more

-- there is a run of the call alone, with those that begin on its lines, that treats the last of them at its end as this world does
pub record IsTreatedWithHeirs (script : Script) (call : ℕ) (events : List Event) (lone end : World) : Type 0 where
  pub last : World
  pub runs : Runs script (events_with_heirs call events) lone last
  pub alike : TreatAlike end last (heir_of call events)

-- the same of a call with all that begin on its lines: on a gateway of their own that gives enough numbers they go as they go among others
abbrev pub CallsWithHeirsAreIsolated : Type 0
CallsWithHeirsAreIsolated =
    (script : Script) (entries : List Entry) → IsScript script → All (IsEntryOf script) entries → NoneBroken script entries → HasFewCommands script
    → (calls : List Opened) (one : Opened) (events : List Event) (start end lone : World) → Contains calls one → IsOpening script calls start
    → IsOpening script (one ∷ []) lone → RunsWithin script events start end → HasEnoughNumbers lone.gateway.board.class
    → IsTreatedWithHeirs script one.call events lone end

-- and for each call of an opening there is an opening of it alone, on a gateway that gives the same numbers
abbrev pub CallsOpenAlone : Type 0
CallsOpenAlone =
    (script : Script) (calls : List Opened) (one : Opened) (start : World) → Contains calls one → IsOpening script calls start
    → (lone : World) × (IsOpening script (one ∷ []) lone × (lone.gateway.board.class ≡ start.gateway.board.class))

-- a gateway that gives each number of one class, of at most as many as shards may share, gives enough
abbrev pub ClassesGiveEnough : Type 0
ClassesGiveEnough =
    (class : ℕ → Bool) (first stride : ℕ) → first < stride → stride ≤ most_shards → ((n : ℕ) → n % stride ≡ first → IsTrue (class n))
    → HasEnoughNumbers class

-- ---- at each moment

-- an event is of a call, or begins another one on its lines, or is a restart
abbrev pub is_own : ℕ → Event → Bool
is_own call (OfCall one happens) = begins_on call happens || one.0 == call
is_own call Restart = true

-- the call that has the lines after an event
abbrev pub call_after : ℕ → Event → ℕ
call_after call (OfCall one happens) = if begins_on call happens then one.0 else call
call_after call Restart = call

-- an event that is the call's happens to it alone too; at any other it stays as it is
abbrev pub HappensAlone : Bool → Script → Event → World → World → Type 0
HappensAlone true script event v too = Occurs script v event too
HappensAlone false script event v too = too ≡ v

-- a run of any calls from a world, and beside it one of a call alone: at each moment both treat the call alike, or the one that began on its lines
unfoldable pub RunsBeside : Script → ℕ → List Event → World → World → World → Type 0
RunsBeside script call [] w v end = (end ≡ w) × TreatAlike w v call
RunsBeside script call (event ∷ more) w v end =
    TreatAlike w v call × ((next : World) × (Occurs script w event next
    × ((too : World) × (HappensAlone (is_own call event) script event v too × RunsBeside script (call_after call event) more next too end))))

-- so a call with all that begin on its lines is isolated throughout
abbrev pub CallsAreIsolatedThroughout : Type 0
CallsAreIsolatedThroughout =
    (script : Script) (entries : List Entry) → IsScript script → All (IsEntryOf script) entries → NoneBroken script entries → HasFewCommands script
    → (calls : List Opened) (one : Opened) (events : List Event) (start end lone : World) → Contains calls one → IsOpening script calls start
    → IsOpening script (one ∷ []) lone → RunsWithin script events start end → HasEnoughNumbers lone.gateway.board.class
    → RunsBeside script one.call events start lone end

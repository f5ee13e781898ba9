-- The statements of the lemmas of which the promise over runs is made, each proved in a file of its own.
use Rattle.mg_safety.proofs.Words.{◌≡◌, ℕ, true, false, if◌then◌else◌, List, Contains, Option, Some, None, ◌⊎◌, All, ChosenRefusal, Failure, TermId, Eph, Sent, IsCovered}
use Rattle.mg_safety.proofs.Words.{Agent, after_results, built_by, commands_of, none_made, Board, exists, IsSettled, Configuration, Entry, Gateway, start_of}
use Rattle.mg_safety.proofs.Words.{LineRow, Note, NoneBroken, JoinedAreMarked, EndedIsCleared, CreatedAreUnbound, NamesAreLive, Running, note_on, Script, Step}
use Rattle.mg_safety.proofs.Words.{steps_of, opening, reset, World, Opened, IsOpening, IsGood, IsScript, IsEntryOf}
use Rattle.mg_model.specs.RequestRun.{RunsFrom}
use Rattle.mg_safety.proofs.Invariant.Shown.{Naming, naming, Shown, Seen, LinesShown, IsAccounted, owned_at, list_raises, ChangesOwned}
use Rattle.mg_safety.proofs.Invariant.Sound.{Listed, Stands, is_call, owner_of, owned_in, link_of, IsSound}

-- ---- the configurations that calls may have

-- what no broken obligation says of the configurations that entries have, and then of those that calls come to
pub record IsClosed (script : Script) (Among : Listed) : Type 0 where
  pub opening : Stands script Among (opening script)
  pub reset : Stands script Among (reset script)
  pub marked : (c : Configuration) → Stands script Among c → JoinedAreMarked script c
  pub cleared : (c : Configuration) → Stands script Among c → EndedIsCleared script c
  pub unbound : (c : Configuration) → Stands script Among c → CreatedAreUnbound script c
  pub live : (c : Configuration) → Stands script Among c → NamesAreLive c
  pub steps : (c : Configuration) (step : Step) → Stands script Among c → Contains (steps_of script c) step → Stands script Among step.1

abbrev pub NoneBrokenIsClosed : Type 0
NoneBrokenIsClosed =
    (script : Script) (entries : List Entry) → IsScript script → All (IsEntryOf script) entries → NoneBroken script entries → IsClosed script (IsCovered entries)

-- ---- a request

-- a line after a request: it was armed by it, or its descriptor was emptied, or it is the one that stood before
abbrev pub LineGoes : ℕ → LineRow → LineRow → Type 0
LineGoes number row after =
    (after.request ≡ Some number) ⊎ ((after.request ≡ None) ⊎ ((after.list ≡ row.list) × (after.request ≡ row.request)))

-- the request of an agent was run
pub record IsRunOf (script : Script) (Among : Listed) (g : Gateway) (a : Agent) (number : ℕ) (end : Running) (failure : Option Failure) : Type 0 where
  pub c : Configuration
  pub stands : Stands script Among c
  pub link : c.link ≡ link_of failure
  pub state : c.state ≡ a.state
  pub shown : Shown script (owned_at (owner_of g a.call) end.board) (naming (after_results a (built_by script a a.state) end.results number)) end.board c
  pub lines_shown : LinesShown script (after_results a (built_by script a a.state) end.results number) end.line c
  pub accounted : IsAccounted end.board
  pub changes : ChangesOwned (owner_of g a.call) g.board end.board
  pub other_lines : (l : ℕ) → is_call (g.holder l) a.call ≡ false → end.line l ≡ g.line l
  pub own_lines : (l : ℕ) → LineGoes number (g.line l) (end.line l)
  pub notes : (l : ℕ) (note : Note) → Contains end.notes (note_on l note)
      → (is_call (g.holder l) a.call ≡ true) × (note.request ≡ number)
      × ((end.line l).request ≡ Some number → list_raises (end.line l).list note.kind ≡ true)

abbrev pub RequestsRun : Type 1
RequestsRun =
    (script : Script) (Among : Listed) → IsScript script → IsClosed script Among → (g : Gateway) (a : Agent) (c : Configuration)
    → Stands script Among c → c.link ≡ Sent → c.state ≡ a.state → Seen script (owned_in g a.call) (naming a) g.board c
    → LinesShown script a g.line c → IsAccounted g.board → (number : ℕ) (refusal : Option ChosenRefusal) (end : Running) (failure : Option Failure)
    → RunsFrom number refusal (start_of g) 0 (commands_of script a none_made 0 (built_by script a a.state)) end failure
    → IsRunOf script Among g a number end failure

-- ---- another call's request

-- what the gateway becomes where a request changed only what its call owns, and has ended
pub record IsOwnChange (g : Gateway) (end : Board) (after : Gateway) (call : ℕ) : Type 0 where
  pub changes : ChangesOwned (owner_of g call) g.board end
  pub settled : IsSettled end after.board
  pub holder : after.holder ≡ g.holder
  pub creator : (x : ℕ) → after.creator x
      ≡ (if exists end (Eph x) then (if g.board.used_ephemeral x then g.creator x else Some call) else None)
  pub accounted : IsAccounted g.board
  pub creator_stands : (x one : ℕ) → g.creator x ≡ Some one → exists g.board (Eph x) ≡ true

abbrev pub OthersStayShown : Type 0
OthersStayShown =
    (script : Script) (g : Gateway) (end : Board) (after : Gateway) (call other : ℕ) (n : Naming) (c : Configuration) → IsOwnChange g end after call
    → (call ≡ other → ⊥) → Seen script (owned_in g other) n g.board c → Seen script (owned_in after other) n after.board c

-- what exists of what the run calls owned is what the call owns once the request ended
abbrev pub OwnersAgree : Type 0
OwnersAgree =
    (g : Gateway) (end : Board) (after : Gateway) (call : ℕ) → IsAccounted end → IsOwnChange g end after call → (t : TermId) → exists end t ≡ true
    → owned_in after call t ≡ owned_at (owner_of g call) end t

-- ---- events

abbrev pub OpeningsAreSound : Type 1
OpeningsAreSound =
    (script : Script) (Among : Listed) → IsScript script → IsClosed script Among → (calls : List Opened) (w : World)
    → IsOpening script calls w → IsSound script Among w

abbrev pub SoundIsGood : Type 1
SoundIsGood = (script : Script) (Among : Listed) → IsScript script → IsClosed script Among → (w : World) → IsSound script Among w → IsGood script w

-- an event keeps the world sound
abbrev pub KeepsSound : (Script → World → World → Type 0) → Type 1
KeepsSound happens =
    (script : Script) (Among : Listed) → IsScript script → IsClosed script Among → (w after : World) → IsSound script Among w
    → happens script w after → IsSound script Among after

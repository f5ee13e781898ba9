-- What the gateway does with the commands of one request: one after the other, up to a chosen refusal, the first command that
-- is refused, or the end (H.248.1 section 8.2.1; that what was done stays is this profile's own). A reader should check the
-- order within a command (the connection model, then Signals, then Events), that a chosen refusal takes its place in the order
-- of the codes, and which notes are sent at the end: those whose descriptor was neither replaced nor emptied by a later command
-- of the same request (this profile's own).
use Rattle.std.specs.Prelude.{◌≡◌, ℕ, ◌+◌, ◌<◌, ◌==◌, Bool, false, not, ◌&&◌, ◌||◌, if◌then◌else◌, List, [], ◌∷◌, ◌++◌, filter, slice_get, Option, Some, None, unwrap_or, option_map, option_and_then, ◌⊎◌, is_some}
use Rattle.mg_names.specs.declared.codes.Code.{Code}
use Rattle.mg_names.specs.declared.identifiers.TermId.{TermId}
use Rattle.mg_names.specs.declared.identifiers.TermId.TheVariants.{Line, Eph}
use Rattle.mg_model.specs.declared.failures.ChosenRefusal.{ChosenRefusal}
use Rattle.mg_model.specs.declared.failures.Failure.{Failure}
use Rattle.mg_model.specs.declared.failures.Refusal.{Refusal}
use Rattle.mg_model.specs.declared.items.Added.TheVariants as added
use Rattle.mg_model.specs.declared.items.Item.{Item}
use Rattle.mg_model.specs.declared.items.Item.TheVariants.{Add, Modify, Move, Subtract, SubtractAll, SetTopology}
use Rattle.mg_model.specs.declared.items.RemoteSetting.{RemoteSetting}
use Rattle.mg_model.specs.declared.items.RemoteSetting.TheVariants.{Nothing, Ephemeral}
use Rattle.mg_model.specs.declared.items.Settings.{Settings}
use Rattle.mg_model.specs.declared.line_events.SignalSet.{SignalSet}
use Rattle.mg_model.specs.declared.references.ContextRef.{ContextRef}
use Rattle.mg_model.specs.declared.references.ContextRef.TheVariants.{Number, MadeAt}
use Rattle.mg_model.specs.declared.references.EphemeralRef.{EphemeralRef}
use Rattle.mg_model.specs.declared.references.EphemeralRef.TheVariants as ephemeral
use Rattle.mg_model.specs.declared.references.RemoteRef.{RemoteRef}
use Rattle.mg_model.specs.declared.references.RemoteRef.TheVariants as remote
use Rattle.mg_model.specs.declared.references.TerminationRef.{TerminationRef}
use Rattle.mg_model.specs.declared.references.TerminationRef.TheVariants as on
use Rattle.mg_model.specs.Board.{Board}
use Rattle.mg_model.specs.Failures.{code_of}
use Rattle.mg_model.specs.Items.{Done, Applies, IsExecuted, rank, subtracts}
use Rattle.mg_model.specs.LineEvents.{ListItem, LineRow, Note, Outcome, armed, signalled, cleared, stays}
use Rattle.mg_model.specs.Numbers.{all, no_ephemeral, the_context, the_line}
use Rattle.mg_model.specs.Messages.{Descriptors, RequestCommand, add_line, add_ephemeral, modify, move, subtract, subtract_all, set_topology}

-- ---- names, by what the earlier commands created

-- a place at which no context was created stands for ALL, which is no context; one at which no ephemeral was created for 0,
-- which is no ephemeral. So such commands are answered 411 and 430
abbrev pub context_at : List Done → ContextRef → ℕ
context_at results (Number n) = n.0
context_at results (MadeAt p) = unwrap_or (option_and_then (λ (done : Done). done.context) (slice_get results p)) all

abbrev pub ephemeral_at : List Done → EphemeralRef → ℕ
ephemeral_at results (ephemeral.Number n) = n
ephemeral_at results (ephemeral.MadeAt p) = unwrap_or (option_and_then (λ (done : Done). done.ephemeral) (slice_get results p)) no_ephemeral

abbrev pub termination_at : List Done → TerminationRef → TermId
termination_at results (on.Line l) = Line l
termination_at results (on.Ephemeral e) = Eph (ephemeral_at results e)

abbrev pub remote_at : List Done → RemoteRef → RemoteSetting
remote_at results remote.Nothing = Nothing
remote_at results (remote.To e) = Ephemeral (ephemeral_at results e)

abbrev pub settings_at : List Done → Descriptors → Settings
settings_at results d = record { mode = d.mode; remote = option_map (remote_at results) d.remote }

-- the command on the connection model
abbrev pub item_at : List Done → RequestCommand → Item
item_at results (add_line c l d) = Add (the_context (context_at results c)) (added.Line (the_line l)) (settings_at results d)
item_at results (add_ephemeral c d) = Add (the_context (context_at results c)) added.NewEphemeral (settings_at results d)
item_at results (modify c t d) = Modify (the_context (context_at results c)) (termination_at results t) (settings_at results d)
item_at results (move c t d) = Move (the_context (context_at results c)) (termination_at results t) (settings_at results d)
item_at results (subtract c t) = Subtract (the_context (context_at results c)) (termination_at results t)
item_at results (subtract_all c) = SubtractAll (the_context (context_at results c))
item_at results (set_topology c t u topology) =
    SetTopology (the_context (context_at results c)) (termination_at results t) (termination_at results u) topology

-- ---- descriptors of a line

-- a line, with the descriptors that a command has for it
pub record LineDescriptors : Type 0 where
  pub line : ℕ
  pub descriptors : Descriptors

abbrev pub on_line : ℕ → Descriptors → LineDescriptors
on_line l d = record { line = l; descriptors = d }

abbrev pub of_termination : TerminationRef → Descriptors → Option LineDescriptors
of_termination (on.Line l) d = Some (on_line l.0 d)
of_termination (on.Ephemeral e) d = None

-- the line that a command's descriptors are for, with them
abbrev pub descriptors_for : RequestCommand → Option LineDescriptors
descriptors_for (add_line c l d) = Some (on_line l d)
descriptors_for (modify c t d) = of_termination t d
descriptors_for (move c t d) = of_termination t d
descriptors_for command = None

abbrev pub with_signals : LineRow → Option SignalSet → LineRow
with_signals row None = row
with_signals row (Some set) = (signalled row set).row

abbrev pub with_events : LineRow → Option (List ListItem) → ℕ → Outcome
with_events row None number = stays row
with_events row (Some list) number = armed row list number

-- a line after the descriptors of a command: Signals first, then Events, whose RequestID is the request's number
abbrev pub with_descriptors : LineRow → Descriptors → ℕ → Outcome
with_descriptors row d number = with_events (with_signals row d.signals) d.events number

abbrev pub is_line : Option LineDescriptors → ℕ → Bool
is_line None l = false
is_line (Some on) l = on.line == l

-- the command replaces the line's Events descriptor
abbrev pub has_new_events : Option LineDescriptors → ℕ → Bool
has_new_events None l = false
has_new_events (Some on) l = (on.line == l) && is_some on.descriptors.events

-- ---- the run

-- a note that a command raised on a line
pub record RaisedNote : Type 0 where
  pub line : ℕ
  pub note : Note

abbrev pub note_on : ℕ → Note → RaisedNote
note_on l note = record { line = l; note = note }

-- a request while it runs: the board, the lines, the results so far, and the notes to be sent
pub record Running : Type 0 where
  pub board : Board
  pub line : ℕ → LineRow
  pub results : List Done
  pub notes : List RaisedNote

-- what becomes of a line
abbrev pub described_row : Option LineDescriptors → LineRow → ℕ → ℕ → LineRow
described_row None row l number = row
described_row (Some on) row l number = if on.line == l then (with_descriptors row on.descriptors number).row else row

abbrev pub line_after : Running → RequestCommand → Item → ℕ → ℕ → LineRow
line_after r command item number l =
    if subtracts r.board item (Line (the_line l)) then cleared (r.line l) else described_row (descriptors_for command) (r.line l) l number

-- the note that a command raises
abbrev pub note_from : ℕ → Option Note → List RaisedNote
note_from l None = []
note_from l (Some note) = note_on l note ∷ []

abbrev pub raised : Running → Option LineDescriptors → ℕ → List RaisedNote
raised r None number = []
raised r (Some on) number = note_from on.line (with_descriptors (r.line on.line) on.descriptors number).note

-- the notes whose descriptor still stands
abbrev pub standing : Running → RequestCommand → Item → List RaisedNote
standing r command item =
    filter (λ (n : RaisedNote). not (subtracts r.board item (Line (the_line n.line)) || has_new_events (descriptors_for command) n.line)) r.notes

-- after a command that was executed
abbrev pub after_command : Running → RequestCommand → Item → Board → Done → ℕ → Running
after_command r command item board done number = record {
  board = board;
  line = line_after r command item number;
  results = r.results ++ done ∷ [];
  notes = standing r command item ++ raised r (descriptors_for command) number;
}

-- the refusal that is chosen for a place
abbrev pub chosen_at : Option ChosenRefusal → ℕ → Option Refusal
chosen_at None place = None
chosen_at (Some chosen) place = if chosen.place == place then Some chosen.refusal else None

-- a command at a place is executed, and no refusal is chosen for it
pub record Succeeds (r : Running) (command : RequestCommand) (place : ℕ) (chosen : Option ChosenRefusal) (number : ℕ) (next : Running) : Type 0 where
  pub board : Board
  pub done : Done
  pub not_chosen : chosen_at chosen place ≡ None
  pub executed : IsExecuted r.board (item_at r.results command) board done
  pub next_is : next ≡ after_command r command (item_at r.results command) board done number

-- a code that a command may be refused with: one that applies to it, or that of a refusal that is chosen for it
abbrev pub MayRefuse : Board → Item → Option Refusal → Code → Type 0
MayRefuse b item refusal code = Applies b item code ⊎ (option_map code_of refusal ≡ Some code)

-- a command is refused with the first of these codes, in the order in which codes go
pub record IsRefusedWith (b : Board) (item : Item) (refusal : Option Refusal) (code : Code) : Type 0 where
  pub may : MayRefuse b item refusal code
  pub first : (earlier : Code) → rank earlier < rank code → MayRefuse b item refusal earlier → ⊥

-- a command at a place fails
abbrev pub Fails : Running → RequestCommand → ℕ → Option ChosenRefusal → Code → Type 0
Fails r command place chosen code = IsRefusedWith r.board (item_at r.results command) (chosen_at chosen place) code

-- the commands from a place on, up to the first that fails or to the end
unfoldable pub RunsFrom : ℕ → Option ChosenRefusal → Running → ℕ → List RequestCommand → Running → Option Failure → Type 0
RunsFrom number chosen r place [] end failure = (end ≡ r) × (failure ≡ None)
RunsFrom number chosen r place (command ∷ more) end failure =
    ((next : Running) × Succeeds r command place chosen number next × RunsFrom number chosen next (place + 1) more end failure)
    ⊎ ((code : Code) × Fails r command place chosen code × (end ≡ r) × (failure ≡ Some (record { place = place; code = code })))

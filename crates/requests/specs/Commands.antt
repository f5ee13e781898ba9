-- What the steps of one command do: which lines are among those that left, how the rows and the notes go on, and what a step
-- of the run is. Only contracts inside the crate cite these; a reader who takes `RunsFrom` of the model for the run needs none of
-- them, and may check that a step is the command's execution or its failure, as the model has them.
use Rattle.std.specs.Prelude.{◌≡◌, ℕ, ◌==◌, true, not, ◌||◌, if◌then◌else◌, List, [], ◌∷◌, ◌++◌, filter, Option, Some, None, unwrap_or, option_map, option_and_then}
use Rattle.std.specs.List.{list_any}
use Rattle.mg_model.specs.declared.failures.ChosenRefusal.{ChosenRefusal}
use Rattle.mg_names.specs.declared.codes.Code.{Code}
use Rattle.mg_names.specs.declared.identifiers.LineNo.{LineNo}
use Rattle.mg_model.specs.Board.{Board}
use Rattle.mg_model.specs.Items.{Done, IsExecuted}
use Rattle.mg_model.specs.LineEvents.{LineRow, new_line, cleared}
use Rattle.mg_model.specs.Members.{is_among}
use Rattle.mg_model.specs.Messages.{RequestCommand}
use Rattle.mg_model.specs.RequestRun.{LineDescriptors, RaisedNote, Running, Succeeds, Fails, item_at, on_line, descriptors_for, described_row, note_from, with_descriptors, has_new_events}
use Rattle.requests.specs.declared.outcome.LineNote.{LineNote}
use Rattle.requests.specs.declared.progress.Progress.{Progress}
use Rattle.requests.specs.Connected.{has_line, end_in}
use Rattle.requests.specs.Views.{line_note, line_notes}

-- rows with lines added; one that is there stays
abbrev pub filled : List LineNo → (ℕ → Option LineRow) → ℕ → Option LineRow
filled lines rows n = if list_any (λ (l : LineNo). n == l.0) lines then Some (unwrap_or (rows n) new_line) else rows n

-- a state of the run, as the code has it
abbrev pub running : Progress → Running
running p = end_in p.connections p.results.items (line_notes p.notes.items)

-- rows with lines cleared
abbrev pub rows_cleared : List ℕ → (ℕ → Option LineRow) → ℕ → Option LineRow
rows_cleared gone rows n = if is_among gone n then option_map cleared (rows n) else rows n

-- the line that a command's descriptors are for, with those that only a line takes: the others are the board's
abbrev pub without_settings : LineDescriptors → LineDescriptors
without_settings on = on_line on.line (record on.descriptors { mode = None; remote = None })

abbrev pub described_line : RequestCommand → Option LineDescriptors
described_line command = option_map without_settings (descriptors_for command)

-- the line that is descriptors_for is there
abbrev pub IsThere : Board → Option LineDescriptors → Type 0
IsThere b None = Unit {0}
IsThere b (Some on) = has_line b on.line ≡ true

-- the row of a line after the descriptors of a command, and cleared where it is among the lines that left
abbrev pub row_in : List ℕ → Option LineDescriptors → (ℕ → LineRow) → ℕ → ℕ → LineRow
row_in gone d rows number l = if is_among gone l then cleared (described_row d (rows l) l number) else described_row d (rows l) l number

-- the notes whose descriptor still stands
abbrev pub notes_left : List ℕ → Option LineDescriptors → List RaisedNote → List RaisedNote
notes_left gone d notes = filter (λ (n : RaisedNote). not (is_among gone n.line || has_new_events d n.line)) notes

abbrev pub noted : Option LineNote → List RaisedNote
noted None = []
noted (Some n) = line_note n ∷ []

-- the note that descriptors raise, by the rows of the lines
abbrev pub raised_on : (ℕ → LineRow) → Option LineDescriptors → ℕ → List RaisedNote
raised_on rows None number = []
raised_on rows (Some on) number = note_from on.line (with_descriptors (rows on.line) on.descriptors number).note

abbrev pub raised_in : (ℕ → Option LineRow) → Option LineDescriptors → ℕ → List RaisedNote
raised_in rows None number = []
raised_in rows (Some on) number =
    note_from on.line (option_and_then (λ row. (with_descriptors row on.descriptors number).note) (rows on.line))

-- what is left to do once the board did a command, with its result
abbrev pub finished : Running → Option LineDescriptors → Done → ℕ → Running
finished r d done number = record {
  board = r.board;
  line = row_in done.lines d r.line number;
  results = r.results ++ done ∷ [];
  notes = notes_left done.lines d r.notes ++ raised_on r.line d number;
}

-- a command is executed, or fails with a code and changes nothing
abbrev pub IsStep : Running → RequestCommand → ℕ → Option ChosenRefusal → ℕ → Running → Option Code → Type 0
IsStep r command place refusal number next None = Succeeds r command place refusal number next
IsStep r command place refusal number next (Some code) = Fails r command place refusal code × (next ≡ r)

-- the identifiers that were created
abbrev pub created : Done → Option ℕ × Option ℕ
created done = (done.context, done.ephemeral)

-- a command that had a result is executed once more, by the results before it, and creates the same identifiers
pub record IsRepeated (b : Board) (rows : ℕ → LineRow) (command : RequestCommand) (before : List Done) (had : Done) (number : ℕ) (after : Board) (left : ℕ → LineRow) : Type 0 where
  pub done : Done
  pub executed : IsExecuted b (item_at before command) after done
  pub same : created done ≡ created had
  pub rows_are : left ≡ row_in done.lines (described_line command) rows number

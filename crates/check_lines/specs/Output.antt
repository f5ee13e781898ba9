-- What the program writes. A reader should compare these texts and statuses with the table of the
-- page on formats: one line for each outcome, or the report of a run, and nothing else.
use Rattle.std.specs.Prelude.{ℕ, ◌==◌, List, [], ◌∷◌, ◌++◌, Option, None, Some, codes, if◌then◌else◌}
use Rattle.std.specs.Fmt.{decimal}
use Rattle.std.specs.List.{flat_map}
use Rattle.mg_model.specs.Reports.{ReportLine}

abbrev pub Text : Type 0
Text = List ℕ

-- the lines that there are
pub data Line : Type 0 where
  -- the words of the command line were refused
  usage : Line
  -- the input has another number of sections than two
  sections : Line
  -- the input goes past its limit
  too_long : Line
  -- a fault of the script, of the certificate or of the plan, by its number and its name
  script_fault : ℕ → Text → Line
  certificate_fault : ℕ → Text → Line
  plan_fault : ℕ → Text → Line
  -- why a plan has no report
  run_fault : ℕ → Text → Line
  -- every obligation holds: the counts of states, entries and well-formed points
  yes : ℕ → ℕ → ℕ → Line
  -- the first obligation that is broken, with its entry, its point and its step where it has them
  no : ℕ → Option ℕ → Option ℕ → Option Text → Line
  no_memory : Line

-- two texts with a space between them
infixr 65 ◌⎵◌
abbrev pub ◌⎵◌ : Text → Text → Text
a ⎵ b = a ++ (32 ∷ b)

abbrev pub number_or_dash : Option ℕ → Text
number_or_dash None = codes "-"
number_or_dash (Some n) = decimal n

abbrev pub text_or_dash : Option Text → Text
text_or_dash None = codes "-"
text_or_dash (Some text) = text

-- the text of a line, without its end
abbrev pub text_of : Line → Text
text_of usage = codes "usage: mgcall check [--pieces N] | run [--workers N]"
text_of sections = codes "input fault 1 Sections"
text_of too_long = codes "input fault 2 TooLong"
text_of (script_fault number name) = codes "script fault" ⎵ decimal number ⎵ name
text_of (certificate_fault number name) = codes "certificate fault" ⎵ decimal number ⎵ name
text_of (plan_fault number name) = codes "plan fault" ⎵ decimal number ⎵ name
text_of (run_fault number name) = codes "run fault" ⎵ decimal number ⎵ name
text_of (yes states entries points) = codes "yes" ⎵ decimal states ⎵ decimal entries ⎵ decimal points
text_of (no obligation entry point step) = codes "no K" ++ (decimal obligation
    ++ (codes " entry=" ++ (number_or_dash entry
    ++ (codes " point=" ++ (number_or_dash point
    ++ (codes " step=" ++ text_or_dash step))))))
text_of no_memory = codes "no memory"

-- ---- a report

-- a line of a report: the number of the call of the plan, which of those that began within it it is, with 0 for the call of the plan
-- itself, and what the report tells of it
pub record CallLine : Type 0 where
  pub call : ℕ
  pub begun : ℕ
  pub told : ReportLine

-- the number of a call; of one that began within a call of the plan its own stands behind a point
abbrev pub begun_text : ℕ → Text
begun_text begun = if begun == 0 then [] else codes "." ++ decimal begun

abbrev pub number_text : (call begun : ℕ) → Text
number_text call begun = (codes "call " ++ decimal call) ++ begun_text begun

abbrev pub place_text : (state phase : Text) → Text
place_text state phase = (codes " " ++ state) ++ (codes " " ++ phase)

abbrev pub counts_text : (events idle : ℕ) → Text
counts_text events idle = (codes " events=" ++ decimal events) ++ ((codes " idle=" ++ decimal idle) ++ 10 ∷ [])

-- a line of a report, with its end
abbrev pub call_text : CallLine → Text
call_text c = number_text c.call c.begun ++ (place_text c.told.state c.told.phase ++ counts_text c.told.events c.told.idle)

-- ---- an output

-- one line, or the lines of a report
pub data Output : Type 0 where
  line : Line → Output
  report : List CallLine → Output

-- a line is ended by a line feed
abbrev pub written : Output → Text
written (line l) = text_of l ++ 10 ∷ []
written (report calls) = flat_map call_text calls

-- the exit status that goes with a line
abbrev pub line_status : Line → ℕ
line_status (yes states entries points) = 0
line_status (no obligation entry point step) = 1
line_status usage = 2
line_status sections = 3
line_status too_long = 3
line_status (script_fault number name) = 3
line_status (certificate_fault number name) = 3
line_status (plan_fault number name) = 3
line_status no_memory = 4
line_status (run_fault number name) = 5

abbrev pub status_of : Output → ℕ
status_of (line l) = line_status l
status_of (report calls) = 0

-- What the program does with its words and its input: what it writes, with which status. A
-- reader should check that each outcome has one output, in this order: the words, reading the input,
-- its sections, the verdict on the script and the certificate, and for `run` the plan and its run.
use Rattle.std.specs.Prelude.{◌≡◌, ◌⊎◌, ℕ, ◌+◌, List, [], length, nat_lt, Option, None, Some}
use Rattle.std.specs.Bool.{MatchBool}
use Rattle.std.specs.Io.KnownBytes.{Consumes, IsAtEnd, Keeps}
use Rattle.program_rim.specs.declared.input.TheConstants.{INPUT_LIMIT}
use Rattle.program_rim.specs.declared.words.Request.{Request}
use Rattle.program_rim.specs.declared.words.Request.TheVariants.{Check, Run}
use Rattle.program_rim.specs.declared.status.Status.{Status}
use Rattle.program_rim.specs.declared.status.Status.TheVariants.{DeviceFailed}
use Rattle.check_lines.specs.Output.{Text, Output, line, report, usage, sections, too_long}
use Rattle.program_rim.specs.Sections.{pair_of, triple_of, sections_of}
use Rattle.program_rim.specs.Words.{request_of}
use Rattle.run_reports.specs.RunAnswers.{AnswersRun}
use Rattle.check_lines.specs.VerdictLines.{IsLineOfSections}
use Rattle.check_lines.specs.Writing.{Serves}

-- ---- which output

abbrev pub IsCheckOutput : Option (Text × Text) → Output → Type 0
IsCheckOutput parts (line l) = IsLineOfSections parts l
IsCheckOutput parts (report calls) = ⊥

-- the output of `run` on an input's three sections, if it has three
abbrev pub IsRunOutput : (workers : ℕ) → Option (Text × Text × Text) → Output → Type 0
IsRunOutput workers None out = out ≡ line sections
IsRunOutput workers (Some (script, certificate, plan)) out = AnswersRun workers script certificate plan out

-- the output on a whole input
abbrev pub IsOutputOf : Request → Text → Output → Type 0
IsOutputOf (Check pieces) input out = IsCheckOutput (pair_of (sections_of input)) out
IsOutputOf (Run workers) input out = IsRunOutput workers (triple_of (sections_of input)) out

-- the output on an input: at the byte past the limit, or else at the end of the source, of which
-- `left` is what is known to remain
abbrev pub IsOutputOfInput : Request → Text → Option Text → Output → Type 0
IsOutputOfInput request input left out = MatchBool (nat_lt INPUT_LIMIT (length input))
    ((length input ≡ INPUT_LIMIT + 1) × (out ≡ line too_long))
    (IsAtEnd left × IsOutputOf request input out)

-- the output for a request; with none, nothing is read
abbrev pub IsOutputOfRequest : Option Request → Text → Option Text → Output → Type 0
IsOutputOfRequest None input left out = (input ≡ []) × (out ≡ line usage)
IsOutputOfRequest (Some request) input left out = IsOutputOfInput request input left out

-- ---- the program

-- a read failed, and nothing is written
abbrev pub FailsToRead : Option Text → Option Text → Option Text → Option Text → Status → Type 0
FailsToRead before left held holds status =
    ((input : Text) × Consumes before left input) × (status ≡ DeviceFailed) × Keeps held holds

-- what was read for a request is answered
abbrev pub ServesRequest : Request → Option Text → Option Text → Option Text → Option Text → Status → Type 0
ServesRequest request before left held holds status =
    ((input : Text) × Consumes before left input × Serves (IsOutputOfInput request input left) held holds status)
    ⊎ FailsToRead before left held holds status

-- all that the program does. The source had `before` left and has `left`, and the sink held `held`
-- and holds `holds`, as far as these are known. Only where the words ask for something can a read fail.
abbrev pub Runs : List Text → Option Text → Option Text → Option Text → Option Text → Status → Type 0
Runs words before left held holds status =
    ((input : Text) × Consumes before left input × Serves (IsOutputOfRequest (request_of words) input left) held holds status)
    ⊎ (((request : Request) × (request_of words ≡ Some request)) × FailsToRead before left held holds status)

-- What is told of an input: the line of the check, with the status of that line, or that of a no where warnings count; and of one with a plan what `mgcall
-- run` writes for it on one worker, with the status of that. A reader should check that a plan has no warnings, and that where there is none no call of it
-- is asked for. This profile's own.
use Rattle.std.specs.Prelude.{◌≡◌, ℕ, ◌⊎◌, Bool, true, false, Option, None, Some, Result, Ok, Err}
use Rattle.std.specs.declared.alloc.AllocError.{AllocError}
use Rattle.check_lines.specs.Output.{Text, too_long}
use Rattle.program_rim.specs.Sections.{pair_of, sections_of, triple_of}
use Rattle.program_rim.specs.declared.input.Input.{Input}
use Rattle.program_rim.specs.declared.input.Input.TheVariants as input
use Rattle.program_rim.specs.declared.status.Status.{Status}
use Rattle.program_rim.specs.declared.status.Status.TheVariants as status
use Rattle.check_facts.specs.Saying.{IsTold, IsUnder}
use Rattle.check_facts.specs.declared.form.Form.{Form}
use Rattle.check_facts.specs.declared.said.Said.{Said}
use Rattle.run_facts.specs.Saying.{IsRunTold}
use Rattle.mgexplain.specs.declared.outcome.Outcome.{Outcome}
use Rattle.mgexplain.specs.declared.outcome.Outcome.TheVariants as outcome
use Rattle.mgexplain.specs.declared.words.Asked.{Asked}
use Rattle.mgexplain.specs.declared.words.Asked.TheVariants.{Saying, Strictly, Help, Version}

-- of three sections as of a run, of any other number as of a check
abbrev pub IsSaidOf : Bool → Option (Text × Text × Text) → Option (Text × Text) → Form → Said → Type 0
IsSaidOf strict (Some (script, certificate, plan)) pair form said = IsRunTold script certificate plan form said
IsSaidOf strict None pair form said = IsTold strict pair form said

-- the words ask for one call of a run
abbrev pub AskOfRun : Option ℕ → Type 0
AskOfRun only = (number : ℕ) × (only ≡ Some number)

-- with a plan no warning counts, and without one no call is asked for
abbrev pub IsUnanswered : Bool → Option (Text × Text × Text) → Option ℕ → Type 0
IsUnanswered strict (Some sections) only = strict ≡ true
IsUnanswered strict None only = AskOfRun only

-- what was said comes of it; else there was no memory. No public clause speaks of this word
abbrev pub IsOutcomeOf : Result Said AllocError → Outcome → Type 0
IsOutcomeOf (Ok said) result = result ≡ outcome.Told said
IsOutcomeOf (Err error) result = result ≡ outcome.NoMemory

-- what comes of sections: the saying, or the usage line where the words don't go with them; memory may run out
abbrev pub IsOutcomeOn : Bool → Form → Option ℕ → Option (Text × Text × Text) → Option (Text × Text) → Outcome → Type 0
IsOutcomeOn strict form only triple pair (outcome.Told said) = IsSaidOf strict triple pair form said
IsOutcomeOn strict form only triple pair outcome.Usage = IsUnanswered strict triple only
IsOutcomeOn strict form only triple pair outcome.NoMemory = Unit {0}
IsOutcomeOn strict form only triple pair outcome.ReadFailed = ⊥

-- what comes of an input; nothing is said where a read failed
abbrev pub IsOutcome : Bool → Form → Option ℕ → Input → Outcome → Type 0
IsOutcome strict form only (input.Whole bytes) result = IsOutcomeOn strict form only (triple_of (sections_of bytes.items)) (pair_of (sections_of bytes.items)) result
IsOutcome strict form only input.TooLong (outcome.Told said) = IsUnder form too_long said
IsOutcome strict form only input.TooLong result = result ≡ outcome.NoMemory
IsOutcome strict form only input.NoMemory result = result ≡ outcome.NoMemory
IsOutcome strict form only input.Failed result = result ≡ outcome.ReadFailed

-- what comes of an input, as the words ask
abbrev pub IsAnswered : Asked → Input → Outcome → Type 0
IsAnswered (Saying form only) input result = IsOutcome false form only input result
IsAnswered (Strictly form) input result = IsOutcome true form None input result
IsAnswered Help input result = Unit {0}
IsAnswered Version input result = Unit {0}

-- the status of what came of an input
abbrev pub status_of : Outcome → Status
status_of (outcome.Told said) = said.status
status_of outcome.Usage = status.Usage
status_of outcome.NoMemory = status.NoMemory
status_of outcome.ReadFailed = status.DeviceFailed

-- it is this status, or a write failed
abbrev pub IsSent : Status → Status → Type 0
IsSent wanted got = (got ≡ wanted) ⊎ (got ≡ status.DeviceFailed)

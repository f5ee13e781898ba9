-- What is written of a line or a report: whole, with its status, or a front of it where a write failed. A reader should check that nothing else is
-- ever written, and that in place of a line nothing is told but that there is no memory.
use Rattle.std.specs.Prelude.{◌≡◌, ◌⊎◌, ℕ, Option, take}
use Rattle.std.specs.Io.KnownBytes.{Appends}
use Rattle.program_rim.specs.declared.status.Status.{Status}
use Rattle.program_rim.specs.declared.status.Status.TheVariants.{DeviceFailed}
use Rattle.program_rim.specs.Statuses.{code_of}
use Rattle.check_lines.specs.Output.{Text, Line, Output, line, no_memory, written, status_of}

-- the output was written whole, with its status; or a write failed after some front of it
abbrev pub Writes : Output → Option Text → Option Text → Status → Type 0
Writes out held holds DeviceFailed = (count : ℕ) × Appends held holds (take count (written out))
Writes out held holds status = Appends held holds (written out) × (code_of status ≡ status_of out)

-- bytes were sent for a status
abbrev pub Sends : Option Text → Option Text → Text → Status → Status → Type 0
Sends held holds bytes meant DeviceFailed = (count : ℕ) × Appends held holds (take count bytes)
Sends held holds bytes meant status = Appends held holds bytes × (status ≡ meant)

-- a line was written, in whose place running out of memory may be told
abbrev pub Tells : Line → Option Text → Option Text → Status → Type 0
Tells l held holds status = (told : Line) × ((told ≡ l) ⊎ (told ≡ no_memory)) × Writes (line told) held holds status

-- an output of this kind was written; memory may run out before anything is
abbrev pub Serves : (Output → Type 0) → Option Text → Option Text → Status → Type 0
Serves Is held holds status = (out : Output) × ((out ≡ line no_memory) ⊎ Is out) × Writes out held holds status

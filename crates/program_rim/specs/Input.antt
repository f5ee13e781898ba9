-- How the reading of the input may end. A reader should check that a whole input is everything up
-- to the source's end and within the limit, and that `TooLong` came at the byte past the limit.
use Rattle.std.specs.Prelude.{◌≡◌, ℕ, ◌+◌, ◌≤◌, List, length, Option}
use Rattle.std.specs.Io.KnownBytes.{Consumes, IsAtEnd}
use Rattle.program_rim.specs.declared.input.TheConstants.{INPUT_LIMIT}
use Rattle.program_rim.specs.declared.input.Input.{Input}
use Rattle.program_rim.specs.declared.input.Input.TheVariants.{Whole, TooLong, Failed}

-- what was taken from the source, by how the reading ended
abbrev pub ReadsAll : Option (List ℕ) → Option (List ℕ) → Input → Type 0
ReadsAll old new (Whole bytes) =
    Consumes old new bytes.items × IsAtEnd new × (length bytes.items ≤ INPUT_LIMIT)
ReadsAll old new TooLong =
    (taken : List ℕ) × Consumes old new taken × (length taken ≡ INPUT_LIMIT + 1)
ReadsAll old new _ = (taken : List ℕ) × Consumes old new taken

-- how many faults of the source that ending stands for
abbrev pub faults_of : Input → ℕ
faults_of Failed = 1
faults_of _ = 0

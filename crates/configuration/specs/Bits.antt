-- Single bits of a word.
use Rattle.std.specs.Prelude.{ℕ, Bool}
use Rattle.configuration.specs.Fields.{field_of}
use Rattle.configuration.specs.Codes.{flag_at}

-- the word has the bit at this place
unfoldable pub has : ℕ → ℕ → Bool
has word place = flag_at (field_of word place 1)

-- The line that the program answers. A reader should check that it is an answer on the bytes, and that none but want of memory stands in its place.
use Rattle.std.specs.Prelude.{◌≡◌, ℕ, ◌⊎◌, List}
use Rattle.check_lines.specs.Output.{Line, no_memory}
use Rattle.check_lines.specs.VerdictLines.{Judges}

-- what `check` writes of the bytes of a script and of a certificate is this line; memory may run out
pub record IsTheLine (script certificate : List ℕ) (line : Line) : Type 0 where
  pub answers : Judges script certificate line
  pub alone : (other : Line) → Judges script certificate other → (other ≡ line) ⊎ (other ≡ no_memory)

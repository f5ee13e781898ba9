-- What a whole write does to the bytes that a sink is known to hold, and what gathering does. A reader should check that a
-- write that is finished appended all of the text, one that failed some front of it, and that nothing of a text that is gathered is lost.
use Rattle.std.specs.Prelude.{◌≡◌, ℕ, List, ◌++◌, take, Option, Result, MatchResult}
use Rattle.std.specs.Io.KnownBytes.{Appends}

-- `written` bytes of the text were appended, and all of it where the result is `Ok`
abbrev pub WritesFront : {E : Type 0} → Option (List ℕ) → Option (List ℕ) → Result (Unit {0}) E → List ℕ → Type 0
WritesFront old new result text =
    MatchResult result (λ _. Appends old new text) (λ _. (written : ℕ) × Appends old new (take written text))

-- a front of the text was written, and the rest of it is kept; or a write failed after some front of it
abbrev pub Passes : {E : Type 0} → Option (List ℕ) → Option (List ℕ) → List ℕ → Result (Unit {0}) E → List ℕ → Type 0
Passes old new text result kept =
    (front : List ℕ) × (rest : List ℕ) × Appends old new front × (text ≡ front ++ rest) × MatchResult result (λ _. kept ≡ rest) (λ _. Unit {0})

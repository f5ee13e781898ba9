-- Which words name files: a program's name stands first, then a script and a certificate, or these and a plan, or no file where all of it stands on standard
-- input; behind these stands what is asked for. A reader should check that no word that names a file is passed over. This profile's own.
use Rattle.std.specs.Prelude.{ℕ, ◌+◌, ◌==◌, ◌||◌, ◌++◌, Bool, false, List, [], ◌∷◌, Option, Some, None, codes, drop, if◌then◌else◌}
use Rattle.std.specs.List.{flat_map}
use Rattle.mgexplain.specs.Forms.{asked_behind}
use Rattle.mgexplain.specs.declared.words.Asked.{Asked}
use Rattle.mgexplain.specs.declared.words.Asked.TheVariants.{Saying, Strictly, Help, Version}
use Rattle.mgexplain.specs.declared.words.Request.{Request}

-- a word that begins with a hyphen asks for something, and names no file
abbrev pub asks : List ℕ → Bool
asks [] = false
asks (byte ∷ rest) = byte == 45

-- how many words name files: those before the first that asks for something
abbrev pub file_count : List (List ℕ) → ℕ
file_count [] = 0
file_count (word ∷ more) = if asks word then 0 else file_count more + 1

-- so many files go with what is asked
abbrev pub go_with : ℕ → Asked → Bool
go_with files (Saying form only) = files == 0 || (files == 2 || files == 3)
go_with files (Strictly form) = files == 0 || files == 2
go_with files Help = files == 0
go_with files Version = files == 0

abbrev pub request_with : ℕ → Option Asked → Option Request
request_with files None = None
request_with files (Some asked) = if go_with files asked then Some (record { asked = asked; files = files }) else None

abbrev pub request_behind : List (List ℕ) → Option Request
request_behind words = request_with (file_count words) (asked_behind (drop (file_count words) words))

abbrev pub request_of : List (List ℕ) → Option Request
request_of [] = None
request_of (name ∷ words) = request_behind words

-- the documents of an input, one after the other, each behind a divider but for the first
abbrev pub joined : List (List ℕ) → List ℕ
joined [] = []
joined (first ∷ others) = first ++ flat_map (λ document. codes "\n%%\n" ++ document) others

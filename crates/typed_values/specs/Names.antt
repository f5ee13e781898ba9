-- The names that a script declares. A reader should check the form of a name, and the four words that can't be declared.
use Rattle.std.specs.Prelude.{ℕ, List, [], ◌∷◌, ◌++◌, Bool, false, not, ◌&&◌, ◌||◌, ◌==◌, nat_le, length, slice_index, codes, if◌then◌else◌}
use Rattle.std.specs.List.{list_all, list_any}
use Rattle.std.specs.Str.{bytes_eq}

abbrev pub is_lowercase : ℕ → Bool
is_lowercase byte = nat_le 97 byte && nat_le byte 122

-- a lower-case letter, a digit or `_`
abbrev pub is_name_byte : ℕ → Bool
is_name_byte byte = (is_lowercase byte || (nat_le 48 byte && nat_le byte 57)) || byte == 95

-- 1 to 16 of these, the first a letter
unfoldable pub is_name : List ℕ → Bool
is_name text =
    nat_le 1 (length text) && nat_le (length text) 16 && is_lowercase (slice_index text 0) && list_all (λ byte. is_name_byte byte) text

-- `none` and `armed` are predefined lists, and `none`, `gone` and `absent` are values of certificates
abbrev pub is_reserved : List ℕ → Bool
is_reserved text =
    ((bytes_eq text (codes "none") || bytes_eq text (codes "armed")) || bytes_eq text (codes "gone")) || bytes_eq text (codes "absent")

-- what a script may declare
abbrev pub is_declarable : List ℕ → Bool
is_declarable text = is_name text && not (is_reserved text)

-- the text is one of the texts
abbrev pub is_among : List ℕ → List (List ℕ) → Bool
is_among text texts = list_any (λ other. bytes_eq text other) texts

-- one of the texts stands among those before it
abbrev pub repeats_after : List (List ℕ) → List (List ℕ) → Bool
repeats_after before [] = false
repeats_after before (text ∷ texts) = is_among text before || repeats_after (before ++ text ∷ []) texts

-- the texts, each once, after those before them
abbrev pub each_once : List (List ℕ) → List (List ℕ) → List (List ℕ)
each_once before [] = before
each_once before (text ∷ texts) = each_once (if is_among text before then before else before ++ text ∷ []) texts

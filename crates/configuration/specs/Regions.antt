-- Sets of packed configurations: those that agree with one in some bits, and have their values in some sets. A value is a
-- number in a field, so a set of values is a number with a bit for each.
use Rattle.std.specs.Prelude.{◌≡◌, ◌<◌, ℕ, ◌==◌, Bool, ◌&&◌, if◌then◌else◌, List, slice_index}
use Rattle.std.specs.List.{list_all}
use Rattle.std.specs.Int.RustNames.{bit_and, bit_xor}
use Rattle.configuration.specs.Fields.{field_of}
use Rattle.configuration.specs.Bits.{has}
use Rattle.configuration.specs.Packed.{Words}

-- a set of values for one component: the number of its word, the place and the size of its field there, and a bit for each
-- number of a value that is in the set
pub record ValueSet : Type 0 where
  pub word : ℕ
  pub at : ℕ
  pub bits : ℕ
  pub allowed : ℕ

-- the lines' word is 0, the ephemerals' 1, the cuts' 2
abbrev pub word_at : Words → ℕ → ℕ
word_at w n = if n == 0 then w.lines else if n == 1 then w.ephemerals else w.cuts

-- numbers are the words, by their numbers
abbrev pub AreWordsOf : List ℕ → Words → Type 0
AreWordsOf numbers w = (n : ℕ) → n < 3 → slice_index numbers n ≡ word_at w n

abbrev pub with_word : Words → ℕ → ℕ → Words
with_word w n word =
    if n == 0 then record w { lines = word } else if n == 1 then record w { ephemerals = word } else record w { cuts = word }

-- the configuration's value is in the set
unfoldable pub is_in : ValueSet → Words → Bool
is_in set w = has set.allowed (field_of (word_at w set.word) set.at set.bits)

-- the words agree with `base` in the bits of `mask`, and have their values in these sets
pub record Region : Type 0 where
  pub base : Words
  pub mask : Words
  pub wide : List ValueSet

-- a word agrees with another in the bits of a mask
unfoldable pub agrees : ℕ → ℕ → ℕ → Bool
agrees word base mask = bit_and (bit_xor word base) mask == 0

abbrev pub are_alike : Words → Words → Words → Bool
are_alike w base mask =
    agrees w.lines base.lines mask.lines
    && (agrees w.ephemerals base.ephemerals mask.ephemerals && agrees w.cuts base.cuts mask.cuts)

unfoldable pub is_within : Region → Words → Bool
is_within region w = are_alike w region.base region.mask && list_all (λ set. is_in set w) region.wide

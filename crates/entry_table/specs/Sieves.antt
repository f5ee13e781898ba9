-- Which of some numbered lists of value sets have a configuration, as words of bits tell it.
-- A reader should check that a list is left where the configuration is like what its group asks of single bits, and the sieves of the
-- group let the list pass with the configuration's numbers.
use Rattle.std.specs.Prelude.{◌≡◌, ℕ, ◌/◌, ◌%◌, ◌<◌, nat_lt, Bool, true, false, ◌&&◌, ◌||◌, not, List, []}
use Rattle.std.specs.List.{list_all, slice_index_or}
use Rattle.configuration.specs.Bits.{has}
use Rattle.configuration.specs.Fields.{field_of}
use Rattle.configuration.specs.Packed.{Words}
use Rattle.configuration.specs.Regions.{ValueSet, are_alike, word_at}

-- of one field the number of its word, its place and its size, and for each number a word with a bit for each of 64 members that
-- allows it; then some of the members, and a bit for each number that these allow at most
pub record Sieve : Type 0 where
  pub word : ℕ
  pub at : ℕ
  pub bits : ℕ
  pub rows : List ℕ
  pub members : ℕ
  pub allowed : ℕ

-- the sieve's field is that of a set
pub record IsOfField (sieve : Sieve) (set : ValueSet) : Type 0 where
  pub word : sieve.word ≡ set.word
  pub at : sieve.at ≡ set.at
  pub bits : sieve.bits ≡ set.bits

-- two sieves are of one field
pub record IsSameField (sieve other : Sieve) : Type 0 where
  pub word : sieve.word ≡ other.word
  pub at : sieve.at ≡ other.at
  pub bits : sieve.bits ≡ other.bits

-- the number that words have in the sieve's field
abbrev pub number_in : Sieve → Words → ℕ
number_in sieve w = field_of (word_at w sieve.word) sieve.at sieve.bits

unfoldable pub passes : Sieve → ℕ → Words → Bool
passes sieve member w =
    has (slice_index_or sieve.rows (number_in sieve w) 0) member
    && (not (has sieve.members member) || has sieve.allowed (number_in sieve w))

abbrev pub passes_sieves : List Sieve → ℕ → Words → Bool
passes_sieves sieves member w = list_all (λ sieve. passes sieve member w) sieves

-- what words have to be in the bits of a mask
pub record Likeness : Type 0 where
  pub base : Words
  pub mask : Words

abbrev pub is_like : Likeness → Words → Bool
is_like likeness w = are_alike w likeness.base likeness.mask

-- what each member of a group of 64 asks of single bits, and the sieves
pub record Group : Type 0 where
  pub alike : Likeness
  pub sieves : List Sieve

abbrev pub passes_all : Group → ℕ → Words → Bool
passes_all group member w = is_like group.alike w && passes_sieves group.sieves member w

abbrev none : Words
none = record { lines = 0; ephemerals = 0; cuts = 0 }

-- a group that asks nothing
abbrev pub bare : Group
bare = record { alike = record { base = none; mask = none }; sieves = [] }

-- how many lists there are, and the groups of each 64 of them
pub record Sieves : Type 0 where
  pub count : ℕ
  pub groups : List Group

-- everything that the list with this number was narrowed by has the words
unfoldable pub is_left : Sieves → ℕ → Words → Bool
is_left sieves number w =
    nat_lt number sieves.count && passes_all (slice_index_or sieves.groups (number / 64) bare) (number % 64) w

-- the list with this number is left, and none before it
pub record IsFirstLeft (sieves : Sieves) (w : Words) (number : ℕ) : Type 0 where
  pub left : is_left sieves number w ≡ true
  pub before : (other : ℕ) → other < number → is_left sieves other w ≡ false

-- there is a list with this number, and it is left for each of some words
unfoldable pub is_left_for_each : Sieves → List Words → ℕ → Bool
is_left_for_each sieves ws number = nat_lt number sieves.count && list_all (is_left sieves number) ws

-- the list with this number is left for each, and none before it
pub record IsFirstLeftForEach (sieves : Sieves) (ws : List Words) (number : ℕ) : Type 0 where
  pub left : is_left_for_each sieves ws number ≡ true
  pub before : (other : ℕ) → other < number → is_left_for_each sieves ws other ≡ false

-- A configuration in three words, and which numbers such words hold. A reader should check the places against the table
-- that the crate's words promise.
use Rattle.std.specs.Prelude.{◌≡◌, ℕ, ◌+◌, ◌-◌, ◌*◌, ◌==◌, ◌≤◌, ◌<◌, nat_lt, if◌then◌else◌}
use Rattle.configuration.specs.Fields.{field_of}

-- what a packed configuration holds: of the lines, with state, link and contexts beside; of the ephemerals; the cuts
pub record Words : Type 0 where
  pub lines : ℕ
  pub ephemerals : ℕ
  pub cuts : ℕ

-- the place of what is cut from the one of eight terminations to the other; the eight pairs of one termination come last
abbrev pub pair_place : ℕ → ℕ → ℕ
pair_place m n = if m == n then 56 + m else if nat_lt m n then 7 * m + n - 1 else 7 * m + n

-- each field holds the number of a value, and nothing is beside the fields
pub record IsPackedLines (word : ℕ) : Type 0 where
  pub spots : (i : ℕ) → i < 4 → field_of word (8 + 11 * i) 3 ≤ 5
  pub events : (i : ℕ) → i < 4 → field_of word (8 + 11 * i + 5) 5 ≤ 17
  pub contexts : (j : ℕ) → j < 4 → field_of word (52 + 2 * j) 2 ≤ 2
  pub beside : field_of word 62 2 ≡ 0

pub record IsPackedEphemerals (word : ℕ) : Type 0 where
  pub spots : (k : ℕ) → k < 4 → field_of word (8 * k) 3 ≤ 5
  pub remotes : (k : ℕ) → k < 4 → field_of word (8 * k + 5) 3 ≤ 5
  pub beside : field_of word 32 32 ≡ 0

pub record IsPacked (words : Words) : Type 0 where
  pub lines : IsPackedLines words.lines
  pub ephemerals : IsPackedEphemerals words.ephemerals

-- What it is that the sieves of each state tell which of the state's entries allow a configuration's values. No public clause speaks
-- of these words.
use Rattle.std.specs.Prelude.{◌≡◌, ◌↔◌, ℕ, ◌<◌, IsTrue, List, length, Some}
use Rattle.std.specs.List.{All, slice_get, slice_index_or}
use Rattle.mg_model.specs.Configuration.{Configuration}
use Rattle.configuration.specs.Config.{configuration_of}
use Rattle.configuration.specs.Packed.{Words, IsPacked}
use Rattle.entry_table.specs.Sieves.{Sieves, is_left}
use Rattle.entry_table.specs.Index.{places_of}
use Rattle.entry_table.specs.Listed.{Listed, Allows}

-- the entry at the place with a number allows a configuration's values
abbrev pub AllowsAt : List Listed → List ℕ → Configuration → ℕ → Type 0
AllowsAt entries places c number =
    (place : ℕ) × ((slice_get places number ≡ Some place)
    × ((entry : Listed) × ((slice_get entries place ≡ Some entry) × All (Allows c) entry.components)))

-- there is a list for each of the entries at some places, and those are left that allow the values
pub record AreSieved (entries : List Listed) (places : List ℕ) (sieves : Sieves) : Type 0 where
  pub count : sieves.count ≡ length places
  pub left : (number : ℕ) (w : Words) → IsPacked w
      → IsTrue (is_left sieves number w) ↔ AllowsAt entries places (configuration_of w) number

-- so it is of the entries of each state of 8 bits
abbrev pub IsSieved : List Sieves → List Listed → Type 0
IsSieved sieves entries =
    (length sieves ≡ 256)
    × ((state : ℕ) (none : Sieves) → state < 256 → AreSieved entries (places_of state entries) (slice_index_or sieves state none))

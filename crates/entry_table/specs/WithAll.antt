-- Which entries of a state allow each of some configurations, well formed or not. Where one of the configurations is of another
-- state, no entry allows each; where there is no configuration, each entry of the state does.
use Rattle.std.specs.Prelude.{◌≡◌, ◌<◌, ℕ, List, Some, Contains}
use Rattle.std.specs.List.{All, slice_get}
use Rattle.configuration.specs.Config.{configuration_of}
use Rattle.configuration.specs.Packed.{Words}
use Rattle.entry_table.specs.Listed.{Listed, Allows}

-- each is one of the entry's state, and has each component in its set
abbrev pub AllowsEach : List Words → Listed → Type 0
AllowsEach configs entry =
    (c : Words) → Contains configs c → ((configuration_of c).state ≡ entry.state) × All (Allows (configuration_of c)) entry.components

-- the entry at a place is one of the state, and allows each
abbrev pub PlaceAllowsEach : List Listed → ℕ → List Words → ℕ → Type 0
PlaceAllowsEach entries state configs place =
    (entry : Listed) × ((slice_get entries place ≡ Some entry) × ((entry.state ≡ state) × AllowsEach configs entry))

-- this entry is one of the state, and none before it that is allows each
pub record IsFirstWithAll (entries : List Listed) (state : ℕ) (configs : List Words) (entry : Listed) : Type 0 where
  pub place : ℕ
  pub at : slice_get entries place ≡ Some entry
  pub of_state : entry.state ≡ state
  pub before : (other : ℕ) → other < place → PlaceAllowsEach entries state configs other → ⊥

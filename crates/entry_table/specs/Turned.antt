-- What the points of an entry are made of: a configuration, and components that are given their values in it. No public clause speaks
-- of these words.
use Rattle.std.specs.Prelude.{◌≡◌, ℕ, ◌<◌, ◌++◌, nat_lt, Bool, true, List, map}
use Rattle.std.specs.List.{list_all}
use Rattle.mg_model.specs.Configuration.{Configuration}
use Rattle.mg_model.specs.Entries.{Component, choices_of, chosen, size_of}
use Rattle.entry_table.specs.Numbers.{number_of}

-- some components make of a configuration what all make of the first one, number by number
pub record IsTurned (all : List Component) (first : Configuration) (some : List Component) (base : Configuration) : Type 0 where
  pub size : size_of some ≡ size_of all
  pub numbers : (k : ℕ) → k < size_of all → chosen (map choices_of all) k first ≡ chosen (map choices_of some) k base

-- the numbers of these components are below one
abbrev pub are_below : ℕ → List Component → Bool
are_below above = list_all (λ component. nat_lt (number_of component) above)

-- some of the components were parted: what is kept with the rest is all, and the numbers of what is kept are below one
abbrev pub IsParted : List Component → Configuration → List Component → List Component → Configuration → ℕ → Type 0
IsParted all first rest kept base above = IsTurned all first (kept ++ rest) base × (are_below above kept ≡ true)

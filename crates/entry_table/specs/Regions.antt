-- What it is that a region has the configurations of a state whose components are allowed. No public clause speaks of these words.
use Rattle.std.specs.Prelude.{◌≡◌, ◌↔◌, ℕ, IsTrue, List}
use Rattle.std.specs.List.{All}
use Rattle.mg_model.specs.Entries.{Component, Allows}
use Rattle.configuration.specs.Config.{configuration_of}
use Rattle.configuration.specs.Packed.{Words, IsPacked}
use Rattle.configuration.specs.Regions.{Region, is_within}

abbrev pub IsRegion : Region → ℕ → List Component → Type 0
IsRegion region state components =
    (w : Words) → IsPacked w → IsTrue (is_within region w) ↔ (((configuration_of w).state ≡ state) × All (Allows (configuration_of w)) components)

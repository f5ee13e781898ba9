-- Which entry of a certificate has a configuration, by its place.
use Rattle.std.specs.Prelude.{◌≡◌, ℕ, List, Some}
use Rattle.std.specs.List.{slice_get}
use Rattle.mg_model.specs.Configuration.{Configuration}
use Rattle.entry_table.specs.Listed.{Listed, Includes}

-- the entry at a place has the configuration
abbrev pub PlaceIncludes : List Listed → Configuration → ℕ → Type 0
PlaceIncludes entries c place = (entry : Listed) × ((slice_get entries place ≡ Some entry) × Includes entry c)

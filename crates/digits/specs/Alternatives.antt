-- An alternative at one place, and the places of those that remain.
use Rattle.std.specs.Prelude.{ℕ, zero, suc, ◌+◌, Bool, false, List, [], ◌∷◌, if◌then◌else◌}
use Rattle.mg_names.specs.declared.symbols.Symbol.{Symbol}
use Rattle.mg_model.specs.declared.positions.Position.{Position}
use Rattle.mg_model.specs.DigitMaps.{accepts}

-- an alternative has a position at this place, and it accepts the symbol
abbrev pub accepts_at : List Position → ℕ → Symbol → Bool
accepts_at [] n s = false
accepts_at (p ∷ positions) zero s = accepts p s
accepts_at (p ∷ positions) (suc n) s = accepts_at positions n s

-- the places of what remains, of which the first is n
abbrev pub places_from : ℕ → List Bool → List ℕ
places_from n [] = []
places_from n (remains ∷ more) = if remains then n ∷ places_from (n + 1) more else places_from (n + 1) more

-- The collector of a line beside the digit map of its list.
use Rattle.std.specs.Prelude.{Bool, false, not, [], Option, Some, None}
use Rattle.mg_model.specs.Script.{DigitMap}
use Rattle.mg_model.specs.DigitMaps.{Dialling, collecting}
use Rattle.digits.specs.Progress.{Progress, Follows, is_completed}

-- what is collected; nothing, where the list has no digit map
abbrev pub digits_in : Option Progress → Dialling
digits_in None = collecting []
digits_in (Some p) = p.digits

-- there is a collector exactly where there is a map, and it follows the map
abbrev pub IsFollowed : Option DigitMap → Option Progress → Type 0
IsFollowed None None = Unit {0}
IsFollowed None (Some p) = ⊥
IsFollowed (Some map) None = ⊥
IsFollowed (Some map) (Some p) = Follows map p

-- there is a map that isn't completed
abbrev pub is_active : Option Progress → Bool
is_active None = false
is_active (Some p) = not (is_completed p.digits)

-- What a collector holds: what is collected, and of each alternative whether it remains, that is whether it takes the
-- symbols so far.
use Rattle.std.specs.Prelude.{◌≡◌, Bool, true, false, List, length, map, take}
use Rattle.mg_names.specs.declared.symbols.Symbol.{Symbol}
use Rattle.mg_model.specs.Script.{DigitMap}
use Rattle.mg_model.specs.DigitMaps.{Dialling, collecting, completed, takes, IsOpen}

pub record Progress : Type 0 where
  pub digits : Dialling
  pub remaining : List Bool

abbrev pub progress : Dialling → List Bool → Progress
progress digits remaining = record { digits = digits; remaining = remaining }

-- these tell of each alternative whether it takes the symbols
abbrev pub ShowsRemaining : DigitMap → List Symbol → List Bool → Type 0
ShowsRemaining alternatives symbols remaining = take (length alternatives) remaining ≡ map (λ positions. takes positions symbols) alternatives

abbrev pub FollowsBy : DigitMap → Dialling → List Bool → Type 0
FollowsBy alternatives (collecting symbols) remaining = ShowsRemaining alternatives symbols remaining × IsOpen alternatives symbols
FollowsBy alternatives completed remaining = Unit {0}

-- a collector that was started with this map, and is used with no other
abbrev pub Follows : DigitMap → Progress → Type 0
Follows alternatives p = FollowsBy alternatives p.digits p.remaining

-- what is collected by symbols, or no more
abbrev pub digits_of : Bool → List Symbol → Dialling
digits_of true symbols = completed
digits_of false symbols = collecting symbols

abbrev pub is_completed : Dialling → Bool
is_completed (collecting symbols) = false
is_completed completed = true

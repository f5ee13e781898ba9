-- The places of terminations among the eight that a script can name.
use Rattle.std.specs.Prelude.{◌≡◌, ℕ, ◌+◌, ◌≤◌, ◌<◌, IsTrue, nat_lt, if◌then◌else◌}
use Rattle.mg_model.specs.declared.commands.Termination.{Termination}
use Rattle.mg_model.specs.declared.commands.Termination.TheVariants.{Line, Ephemeral}
use Rattle.mg_model.specs.declared.components.Spot.TheVariants.{Absent}
use Rattle.mg_model.specs.Configuration.{Configuration}

-- the place of a termination among the eight that a script can name, lines first; 8 for a line that it can't
abbrev pub index_of : Termination → ℕ
index_of (Line i) = if nat_lt i 4 then i else 8
index_of (Ephemeral k) = 4 + k

-- a termination that has no place is absent
abbrev pub AbsentPastEight : Configuration → Type 0
AbsentPastEight c = (t : Termination) → 8 ≤ index_of t → c.spot t ≡ Absent

-- nothing is cut of a termination that has no place
abbrev pub NoCutsPastEight : Configuration → Type 0
NoCutsPastEight c = (t u : Termination) → IsTrue (c.cut t u) → (index_of t < 8) × (index_of u < 8)

-- What some arrows tell of a command of the state that they lead to. No public clause speaks of these words.
use Rattle.std.specs.Prelude.{◌≡◌, ℕ, Bool, false, IsTrue, List, Some, slice_get}
use Rattle.call_ways.specs.Fates.{has, set_at}
use Rattle.call_ways.specs.declared.crossings.Crossing.{Crossing}
use Rattle.call_ways.specs.declared.fates.Fate.{Fate}

-- the arrow leads to the state, and on it this becomes of the command at a place
abbrev pub Meets : Crossing → ℕ → ℕ → Fate → Type 0
Meets told s place it = (told.arrow.to ≡ s) × IsTrue (has (set_at told.fates.items place) it)

-- so it is of the one at a place; of one of these
abbrev pub IsMetAt : List Crossing → ℕ → ℕ → Fate → ℕ → Type 0
IsMetAt list s place it n = (told : Crossing) × ((slice_get list n ≡ Some told) × Meets told s place it)

abbrev pub IsMetAmong : List Crossing → ℕ → ℕ → Fate → Type 0
IsMetAmong list s place it = (n : ℕ) × IsMetAt list s place it n

-- the first is so, and no other one
abbrev pub IsFirstAlone : Bool → Bool → Bool → Bool → Type 0
IsFirstAlone first second third fourth = IsTrue first × ((second ≡ false) × ((third ≡ false) × (fourth ≡ false)))

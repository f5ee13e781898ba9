-- How far an entry is from having a configuration, and the entry that is nearest to it.
use Rattle.std.specs.Prelude.{◌≡◌, ◌⊎◌, ℕ, ◌+◌, ◌<◌, ◌≤◌, nat_lt, if◌then◌else◌, List, [], ◌∷◌, Option, Some, None, slice_get}
use Rattle.explanation.specs.declared.nearest.Nearest.{Nearest}
use Rattle.mg_model.specs.Configuration.{Configuration}
use Rattle.mg_model.specs.Entries.{Entry, Component, Allows}

-- so many of the components don't have the configuration's value
abbrev pub Lack : Configuration → List Component → ℕ → Type 0
Lack c [] count = count ≡ 0
Lack c (component ∷ more) count =
    (Allows c component × Lack c more count)
    ⊎ ((Allows c component → ⊥) × ((rest : ℕ) × (Lack c more rest × (count ≡ rest + 1))))

-- no entry is of this state
abbrev pub HasNone : List Entry → ℕ → Type 0
HasNone entries state = (place : ℕ) (entry : Entry) → slice_get entries place ≡ Some entry → entry.state ≡ state → ⊥

-- the entry at a place is of the configuration's state, and lacks so many of its values; none of that state lacks fewer, and none before it as few
pub record IsNearest (entries : List Entry) (c : Configuration) (place missing : ℕ) : Type 0 where
  pub entry : Entry
  pub at_place : slice_get entries place ≡ Some entry
  pub of_state : entry.state ≡ c.state
  pub lacks : Lack c entry.components missing
  pub least : (other : ℕ) (rival : Entry) (count : ℕ) → slice_get entries other ≡ Some rival → rival.state ≡ c.state
      → Lack c rival.components count → missing ≤ count
  pub first : (other : ℕ) (rival : Entry) (count : ℕ) → other < place → slice_get entries other ≡ Some rival
      → rival.state ≡ c.state → Lack c rival.components count → missing < count

-- the nearer one of what was found and another; of two that lack as much the first. No public clause speaks of this word
abbrev pub nearer_of : Option Nearest → Nearest → Nearest
nearer_of None other = other
nearer_of (Some found) other = if nat_lt other.missing found.missing then other else found

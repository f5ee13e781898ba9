-- Words of the tests that make up the test for well formed configurations. No public clause speaks of them.
use Rattle.std.specs.Prelude.{◌≡◌, ℕ, ◌+◌, ◌-◌, ◌*◌, ◌/◌, ◌%◌, ◌<◌, nat_lt, Bool, true, false, ◌&&◌, ◌||◌, if◌then◌else◌, IsTrue}
use Rattle.mg_names.specs.declared.modes.Mode.{Mode}
use Rattle.mg_names.specs.declared.modes.Mode.TheVariants.{Inactive, SendOnly, ReceiveOnly, SendReceive}
use Rattle.mg_model.specs.declared.commands.Termination.{Termination}
use Rattle.mg_model.specs.declared.commands.Termination.TheVariants.{Ephemeral}
use Rattle.mg_model.specs.declared.components.Spot.{Spot}
use Rattle.mg_model.specs.declared.components.Spot.TheVariants.{Absent, Null, In}
use Rattle.mg_model.specs.declared.components.Remote.{Remote}
use Rattle.mg_model.specs.declared.components.Remote.TheVariants.{Unset, Gone, To}
use Rattle.mg_model.specs.Configuration.{Configuration, stands_in, is_live, is_present}
use Rattle.mg_model.specs.Paths.{is_shared}
use Rattle.configuration.specs.Fields.{field_of}
use Rattle.configuration.specs.Words.{termination_at}

-- a context is live exactly where something stands in it
abbrev pub AreContextsRight : Configuration → Type 0
AreContextsRight c = (j : ℕ) → is_live (c.context j) ≡ stands_in c.spot j

abbrev pub is_inactive : Mode → Bool
is_inactive Inactive = true
is_inactive SendOnly = false
is_inactive ReceiveOnly = false
is_inactive SendReceive = false

abbrev pub remote_is_right : Configuration → Bool → Bool → Remote → Bool
remote_is_right c exists inactive Unset = exists || inactive
remote_is_right c exists inactive Gone = exists
remote_is_right c exists inactive (To i) = exists && is_present (c.spot (Ephemeral i))

abbrev pub is_ephemeral_right : Configuration → ℕ → Bool
is_ephemeral_right c k =
    remote_is_right c (is_present (c.spot (Ephemeral k))) (is_inactive (c.mode (Ephemeral k))) (c.remote k)

-- what is cut stands in one context
abbrev pub AreCutsRight : Configuration → Type 0
AreCutsRight c = (t u : Termination) → IsTrue (c.cut t u) → IsTrue (is_shared (c.spot t) (c.spot u))

-- the number of the context that a spot is in, from 1
abbrev pub context_number : Spot → ℕ
context_number Absent = 0
context_number Null = 0
context_number (In j) = j + 1

-- the two terminations that a bit of the cuts is about
abbrev pub source_of : ℕ → ℕ
source_of place = if nat_lt place 56 then place / 7 else place - 56

abbrev pub sink_of : ℕ → ℕ
sink_of place =
    if nat_lt place 56 then (if nat_lt (place % 7) (place / 7) then place % 7 else place % 7 + 1) else place - 56

abbrev pub is_bit_right : Configuration → ℕ → Bool
is_bit_right c place = is_shared (c.spot (termination_at (source_of place))) (c.spot (termination_at (sink_of place)))

-- by two words of the lines, these stand in the same places, and context names stand for the same
pub record ArePlacedAlike (one other : ℕ) : Type 0 where
  pub spots : (i : ℕ) → i < 4 → field_of one (8 + 11 * i) 3 ≡ field_of other (8 + 11 * i) 3
  pub contexts : (j : ℕ) → j < 4 → field_of one (52 + 2 * j) 2 ≡ field_of other (52 + 2 * j) 2

-- Paths of media in a configuration, and joined lines. Media crosses from one context to another only between two
-- ephemerals that name each other (this profile's own); within a context it goes by modes and topology (H.248.1
-- sections 7.1.7 and 7.1.18). The definition is about lists of crossings. A reader should check the direction:
-- a hop needs that the first passes media into the context, and the second out of it.
use Rattle.std.specs.Prelude.{◌≡◌, ℕ, ◌==◌, Bool, true, false, not, ◌&&◌, IsTrue, List, [], ◌∷◌, ◌⊎◌}
use Rattle.mg_names.specs.declared.modes.Mode.{Mode}
use Rattle.mg_names.specs.declared.modes.Mode.TheVariants.{Inactive, SendOnly, ReceiveOnly, SendReceive}
use Rattle.mg_model.specs.declared.commands.Termination.{Termination}
use Rattle.mg_model.specs.declared.commands.Termination.TheVariants.{Line, Ephemeral}
use Rattle.mg_model.specs.declared.components.Spot.{Spot}
use Rattle.mg_model.specs.declared.components.Spot.TheVariants.{Absent, Null, In}
use Rattle.mg_model.specs.Configuration.{Configuration, is_same, is_in, is_present, is_to}

-- media that the termination receives from outside passes into its context
abbrev pub passes_in : Mode → Bool
passes_in Inactive = false
passes_in SendOnly = false
passes_in ReceiveOnly = true
passes_in SendReceive = true

-- media of its context passes out through the termination
abbrev pub passes_out : Mode → Bool
passes_out Inactive = false
passes_out SendOnly = true
passes_out ReceiveOnly = false
passes_out SendReceive = true

-- two places are one context that is not the null context
abbrev pub is_shared : Spot → Spot → Bool
is_shared Absent other = false
is_shared Null other = false
is_shared (In j) other = is_in other j

-- media goes from t to u, two different terminations of one context
abbrev pub hops : Configuration → Termination → Termination → Bool
hops c t u =
    not (is_same t u) && is_shared (c.spot t) (c.spot u) && passes_in (c.mode t) && passes_out (c.mode u) && not (c.cut t u)

-- media crosses between two different ephemerals that exist and name each other
abbrev pub crosses : Configuration → ℕ → ℕ → Bool
crosses c k i =
    not (k == i) && is_present (c.spot (Ephemeral k)) && is_present (c.spot (Ephemeral i)) && is_to (c.remote k) i
    && is_to (c.remote i) k

-- media goes from one termination to another over these crossings, in order, with a hop before, between and after them
abbrev pub goes_over : Configuration → Termination → List (ℕ × ℕ) → Termination → Bool
goes_over c from [] to = hops c from to
goes_over c from (crossing ∷ more) to =
    hops c from (Ephemeral crossing.0) && crosses c crossing.0 crossing.1 && goes_over c (Ephemeral crossing.1) more to

-- there is a path from line i to another line, j
pub record HasPath (c : Configuration) (i j : ℕ) : Type 0 where
  pub another : i ≡ j → ⊥
  pub crossings : List (ℕ × ℕ)
  pub goes : IsTrue (goes_over c (Line i) crossings (Line j))

-- two lines are joined if there is a path either way
abbrev pub AreJoined : Configuration → ℕ → ℕ → Type 0
AreJoined c i j = HasPath c i j ⊎ HasPath c j i

-- Words of the search for a path: what its words of bits say, and what it asks in each turn. Public clauses speak of `IsWays`
-- alone.
use Rattle.std.specs.Prelude.{◌≡◌, ℕ, ◌+◌, ◌*◌, ◌<◌, ◌==◌, Bool, ◌&&◌, ◌||◌, IsTrue, ◌↔◌, List, [], ◌∷◌}
use Rattle.std.specs.List.{list_any}
use Rattle.mg_model.specs.declared.commands.Termination.{Termination}
use Rattle.mg_model.specs.declared.commands.Termination.TheVariants.{Line, Ephemeral}
use Rattle.mg_model.specs.Configuration.{Configuration}
use Rattle.mg_model.specs.Paths.{hops, crosses, goes_over, passes_out}
use Rattle.configuration.specs.Bits.{has}
use Rattle.configuration.specs.Words.{termination_at}
use Rattle.configuration.specs.Tests.{context_number}

-- for each context by its number, a byte of those of the eight that stand in it and let media out
abbrev pub IsSenders : Configuration → ℕ → Type 0
IsSenders c word =
    (n u : ℕ) → n < 5 → u < 8 →
    has word (8 * n + u) ≡ (context_number (c.spot (termination_at u)) == n && passes_out (c.mode (termination_at u)))

-- for each of the eight, a byte of those that media goes to from it
abbrev pub IsRows : Configuration → ℕ → Type 0
IsRows c word = (t u : ℕ) → t < 8 → u < 8 → has word (8 * t + u) ≡ hops c (termination_at t) (termination_at u)

-- the same of the lines alone
abbrev pub IsLineRows : Configuration → ℕ → Type 0
IsLineRows c word = (t u : ℕ) → t < 4 → u < 8 → has word (8 * t + u) ≡ hops c (termination_at t) (termination_at u)

-- for each ephemeral, a byte of those that media crosses to from it
abbrev pub IsCrossings : Configuration → ℕ → Type 0
IsCrossings c word = (k i : ℕ) → k < 4 → i < 4 → has word (8 * k + i) ≡ crosses c k i

-- media goes from line i to line j, which may be the same
abbrev pub Goes : Configuration → ℕ → ℕ → Type 0
Goes c i j = (crossings : List (ℕ × ℕ)) × IsTrue (goes_over c (Line i) crossings (Line j))

-- for each line, a byte of those that media goes to from it
abbrev pub IsWays : Configuration → ℕ → Type 0
IsWays c word = (i j : ℕ) → i < 4 → j < 4 → IsTrue (has word (8 * i + j)) ↔ Goes c i j

-- a byte of some of eight, those in the mask, has this bit
abbrev pub row_has : ℕ → ℕ → ℕ → ℕ → Bool
row_has rows mask u t = has mask t && has rows (8 * t + u)

abbrev pub reaches : ℕ → ℕ → ℕ → Bool
reaches rows mask u =
    list_any (row_has rows mask u) (0 ∷ 1 ∷ 2 ∷ 3 ∷ 4 ∷ 5 ∷ 6 ∷ 7 ∷ [])

-- some of four ephemerals that passes a test crosses to this one
abbrev pub crossing_has : ℕ → (ℕ → Bool) → ℕ → ℕ → Bool
crossing_has crossings passes i k = passes k && has crossings (8 * k + i)

abbrev pub crosses_to : ℕ → (ℕ → Bool) → ℕ → Bool
crosses_to crossings passes i = list_any (crossing_has crossings passes i) (0 ∷ 1 ∷ 2 ∷ 3 ∷ [])

abbrev pub hops_from : Configuration → (ℕ → Bool) → Termination → ℕ → Bool
hops_from c arrived sink k = arrived k && hops c (Ephemeral k) sink

-- media from the line, or from an ephemeral that it has arrived at, goes on to the sink
abbrev pub is_reached : Configuration → ℕ → (ℕ → Bool) → Termination → Bool
is_reached c line arrived sink =
    hops c (Line line) sink || list_any (hops_from c arrived sink) (0 ∷ 1 ∷ 2 ∷ 3 ∷ [])

abbrev pub crosses_from : Configuration → ℕ → (ℕ → Bool) → ℕ → ℕ → Bool
crosses_from c line arrived k source = is_reached c line arrived (Ephemeral source) && crosses c source k

-- media crosses to an ephemeral from one that is reached
abbrev pub arrives_at : Configuration → ℕ → (ℕ → Bool) → ℕ → Bool
arrives_at c line arrived k =
    list_any (crosses_from c line arrived k) (0 ∷ 1 ∷ 2 ∷ 3 ∷ [])

-- the mask has one line, and of the ephemerals those that were arrived at
abbrev pub HasLine : ℕ → ℕ → Type 0
HasLine mask line = (t : ℕ) → t < 4 → has mask t ≡ (t == line)

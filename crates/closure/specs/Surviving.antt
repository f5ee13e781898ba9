-- Contexts in which somebody stays as a request is executed: they exist to its end, whoever else comes and goes. No public clause speaks of these words.
use Rattle.std.specs.Prelude.{◌≡◌, ℕ, ◌==◌, Bool, true, false, not, IsTrue, List, Contains, slice_index_or}
use Rattle.std.specs.List.{All}
use Rattle.mg_model.specs.declared.commands.Command.{Command}
use Rattle.mg_model.specs.declared.commands.Command.TheVariants.{AddLine, AddEphemeral, ModifyLine, ModifyEphemeral, MoveLine, MoveEphemeral, Subtract, SubtractAll, SetTopology}
use Rattle.mg_model.specs.declared.commands.Termination.{Termination}
use Rattle.mg_model.specs.declared.commands.Termination.TheVariants.{Line, Ephemeral}
use Rattle.mg_model.specs.Configuration.{Configuration, IsWellFormed, is_in, is_same, terminations}
use Rattle.closure.specs.Hulls.{IsInHull}

-- a command leaves a termination that stands in a context there
abbrev pub spares : Command → Termination → ℕ → Bool
spares (AddLine create j i options) t n = not (is_same t (Line i))
spares (AddEphemeral create j k options) t n = not (is_same t (Ephemeral k))
spares (ModifyLine place i options) t n = true
spares (ModifyEphemeral place k options) t n = true
spares (MoveLine j i options) t n = not (is_same t (Line i))
spares (MoveEphemeral j k options) t n = not (is_same t (Ephemeral k))
spares (Subtract j u) t n = not (is_same u t)
spares (SubtractAll j) t n = not (n == j)
spares (SetTopology j u v topology) t n = true

-- somebody stands in a context, whom each of these commands leaves there
abbrev pub Survives : Configuration → List Command → ℕ → Type 0
Survives c request n =
    (t : Termination) × (Contains terminations t × (IsTrue (is_in (c.spot t) n) × All (λ command. IsTrue (spares command t n)) request))

-- so it is in each surviving context
abbrev pub DoSurvive : Configuration → List Command → List Bool → Type 0
DoSurvive c request surviving = (n : ℕ) → slice_index_or surviving n false ≡ true → Survives c request n

-- of all in the hull of some a command leaves whoever stands in a context there
abbrev pub SparesAll : List Configuration → ℕ → Command → Type 0
SparesAll some n command = (c : Configuration) (t : Termination) → IsInHull some c → IsTrue (is_in (c.spot t) n) → IsTrue (spares command t n)

-- contexts survive, in all of the hull of some that is well formed, as these commands are executed
abbrev pub AreSurviving : List Configuration → List Command → List Bool → Type 0
AreSurviving some request surviving = (c : Configuration) → IsInHull some c → IsWellFormed c → DoSurvive c request surviving

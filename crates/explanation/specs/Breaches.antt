-- What of a configuration breaks an obligation, in the words in which the obligations are defined.
use Rattle.std.specs.Prelude.{◌≡◌, ◌⊎◌, ℕ, ◌<◌, true, false, List, [], ◌∷◌, length}
use Rattle.std.specs.List.{list_any}
use Rattle.mg_names.specs.declared.context_values.ContextValue.TheVariants.{Stale}
use Rattle.mg_names.specs.declared.obligations.Obligation.{Obligation}
use Rattle.mg_names.specs.declared.obligations.Obligation.TheVariants.{JoinedMarked, EndedCleared, CreatedUnbound, NamesLive}
use Rattle.mg_model.specs.declared.commands.Termination.TheVariants.{Line, Ephemeral}
use Rattle.mg_model.specs.declared.components.Remote.TheVariants.{Gone}
use Rattle.mg_model.specs.Script.{Script}
use Rattle.mg_model.specs.Tables.{state_of, items_of, is_armed_list, is_marked}
use Rattle.mg_model.specs.Configuration.{Configuration, is_free, is_null, is_present}
use Rattle.mg_model.specs.Paths.{AreJoined}
use Rattle.explanation.specs.Created.{creates_context, creates_ephemeral}
use Rattle.explanation.specs.declared.breach.Breach.{Breach}
use Rattle.explanation.specs.declared.breach.Breach.TheVariants.{Joined, Away, Playing, NotArmed, Remaining, BoundContext, BoundEphemeral, StaleContext, GoneRemote}

-- a line of the script
abbrev pub IsLine : Script → ℕ → Type 0
IsLine script i = i < length script.lines

abbrev pub IsBreach : Script → Configuration → Breach → Type 0
IsBreach script c (Joined pair) =
    IsLine script pair.first × IsLine script pair.second × AreJoined c pair.first pair.second
    × (is_marked (state_of script c.state).talk pair.first pair.second ≡ false)
IsBreach script c (Away i) = IsLine script i × (is_null (c.spot (Line i)) ≡ false)
IsBreach script c (Playing i) = IsLine script i × (c.plays i ≡ true)
IsBreach script c (NotArmed i) = IsLine script i × (is_armed_list (items_of script (c.events i)) ≡ false)
IsBreach script c (Remaining k) = is_present (c.spot (Ephemeral k)) ≡ true
IsBreach script c (BoundContext j) =
    (is_free (c.context j) ≡ false) × (list_any (creates_context j) (state_of script c.state).commands ≡ true)
IsBreach script c (BoundEphemeral k) =
    (is_present (c.spot (Ephemeral k)) ≡ true) × (list_any (creates_ephemeral k) (state_of script c.state).commands ≡ true)
IsBreach script c (StaleContext j) = c.context j ≡ Stale
IsBreach script c (GoneRemote k) = c.remote k ≡ Gone

-- what can break an obligation of a point, in its order: each pair of lines once, and each of the four slots
abbrev pub candidates_of : Obligation → List Breach
candidates_of JoinedMarked =
    Joined (record { first = 0; second = 1 }) ∷ Joined (record { first = 0; second = 2 }) ∷ Joined (record { first = 0; second = 3 })
    ∷ Joined (record { first = 1; second = 2 }) ∷ Joined (record { first = 1; second = 3 }) ∷ Joined (record { first = 2; second = 3 }) ∷ []
candidates_of EndedCleared =
    Away 0 ∷ Playing 0 ∷ NotArmed 0 ∷ Remaining 0 ∷ Away 1 ∷ Playing 1 ∷ NotArmed 1 ∷ Remaining 1
    ∷ Away 2 ∷ Playing 2 ∷ NotArmed 2 ∷ Remaining 2 ∷ Away 3 ∷ Playing 3 ∷ NotArmed 3 ∷ Remaining 3 ∷ []
candidates_of CreatedUnbound =
    BoundContext 0 ∷ BoundContext 1 ∷ BoundContext 2 ∷ BoundContext 3
    ∷ BoundEphemeral 0 ∷ BoundEphemeral 1 ∷ BoundEphemeral 2 ∷ BoundEphemeral 3 ∷ []
candidates_of NamesLive =
    StaleContext 0 ∷ StaleContext 1 ∷ StaleContext 2 ∷ StaleContext 3 ∷ GoneRemote 0 ∷ GoneRemote 1 ∷ GoneRemote 2 ∷ GoneRemote 3 ∷ []
candidates_of _ = []

-- of some things those that the configuration has, in their order
abbrev pub ArePicked : Script → Configuration → List Breach → List Breach → Type 0
ArePicked script c [] found = found ≡ []
ArePicked script c (breach ∷ more) found =
    (IsBreach script c breach × ((rest : List Breach) × (ArePicked script c more rest × (found ≡ breach ∷ rest))))
    ⊎ ((IsBreach script c breach → ⊥) × ArePicked script c more found)

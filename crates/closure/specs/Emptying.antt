-- Those whose hull has all that `subtract CONTEXT *` leaves, whoever stands in the context. Who stands there in each of some configurations leaves in all
-- of their hull; who does in some may leave or not. No public clause speaks of these words.
use Rattle.std.specs.Prelude.{◌≡◌, ⊤, ℕ, false, if◌then◌else◌, IsTrue, List, [], ◌∷◌, Contains}
use Rattle.mg_model.specs.declared.commands.Command.{Command}
use Rattle.mg_model.specs.declared.commands.Command.TheVariants.{AddLine, AddEphemeral, ModifyLine, ModifyEphemeral, MoveLine, MoveEphemeral, Subtract, SubtractAll, SetTopology}
use Rattle.mg_model.specs.declared.commands.Termination.{Termination}
use Rattle.mg_model.specs.declared.commands.Termination.TheVariants.{Ephemeral}
use Rattle.mg_model.specs.declared.components.Remote.TheVariants.{Gone, To}
use Rattle.mg_model.specs.declared.components.Spot.{Spot}
use Rattle.mg_model.specs.Script.{Script}
use Rattle.mg_model.specs.Configuration.{Configuration, is_in, terminations, with_of}
use Rattle.mg_model.specs.Effects.{spot_after}
use Rattle.closure.specs.Hulls.{IsInHull}
use Rattle.closure.specs.Placing.{IsNowhere, unsettled}

-- what a command does to a component hangs on that component alone, whatever the others are
abbrev pub GoesByComponent : Command → Type 0
GoesByComponent (AddLine create j i options) = ⊤
GoesByComponent (AddEphemeral create j k options) = ⊤
GoesByComponent (ModifyLine place i options) = ⊤
GoesByComponent (ModifyEphemeral place k options) = ⊤
GoesByComponent (MoveLine j i options) = ⊤
GoesByComponent (MoveEphemeral j k options) = ⊤
GoesByComponent (Subtract j t) = ⊤
GoesByComponent (SubtractAll j) = ⊥
GoesByComponent (SetTopology j t u topology) = ⊤

-- a termination stands in a context in this one, if it does in one in the hull of some
abbrev pub StandsToo : List Configuration → ℕ → Configuration → Termination → Type 0
StandsToo some j one t = (c : Configuration) → IsInHull some c → IsTrue (is_in (c.spot t) j) → IsTrue (is_in (one.spot t) j)

-- where it stands there in this one, it does in each of some
abbrev pub StandsInEach : List Configuration → ℕ → Configuration → Termination → Type 0
StandsInEach some j one t = IsTrue (is_in (one.spot t) j) → (d : Configuration) → Contains some d → IsTrue (is_in (d.spot t) j)

-- the place of a termination once those are put out of a context that don't surely stand there
abbrev pub spot_out : Configuration → ℕ → Termination → Spot → Spot
spot_out sure j t spot = if is_in spot j then (if is_in (sure.spot t) j then spot else spot_after t) else spot

abbrev pub put_out : Configuration → ℕ → Configuration → Termination → Configuration
put_out sure j d t = record d { spot = with_of d.spot t (spot_out sure j t (d.spot t)) }

abbrev pub out_each : Configuration → ℕ → Configuration → List Termination → Configuration
out_each sure j d [] = d
out_each sure j d (t ∷ more) = out_each sure j (put_out sure j d t) more

-- all leave the context, and those who surely stand there lose what is theirs
abbrev pub emptied : Script → ℕ → Configuration → Configuration → Configuration
emptied script j sure d = unsettled script (SubtractAll j) (out_each sure j d terminations)

-- the Remote of an ephemeral names none that may leave
abbrev pub NamesNoneOf : List Configuration → ℕ → ℕ → Configuration → Type 0
NamesNoneOf some j k d = (i : ℕ) → d.remote k ≡ To i → IsNowhere some (Ephemeral i) j

-- the Remote of an ephemeral is gone in this one, if in one in the hull of some it names one that leaves, and stays itself
abbrev pub IsLost : List Configuration → ℕ → Configuration → ℕ → Type 0
IsLost some j gone k =
    (c : Configuration) (i : ℕ) → IsInHull some c → c.remote k ≡ To i → IsTrue (is_in (c.spot (Ephemeral i)) j) → is_in (c.spot (Ephemeral k)) j ≡ false
    → gone.remote k ≡ Gone

-- what a command makes, but for the question which contexts still exist, of the hull of some is in the hull of others
abbrev pub AreMade : Script → List Configuration → Command → List Configuration → Type 0
AreMade script some command made = (c : Configuration) → IsInHull some c → IsInHull made (unsettled script command c)

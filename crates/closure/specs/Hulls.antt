-- The hull of some configurations: all that have each component's value from one of them. What a list of values has of a component of
-- each of these it has of that of all in their hull, and there may be many more. No public clause speaks of these words.
use Rattle.std.specs.Prelude.{◌≡◌, ◌⊎◌, ℕ, ◌<◌, Bool, List, [], ◌∷◌, map, length, Option, Some, IsTrue, Contains}
use Rattle.std.specs.List.{slice_index_or}
use Rattle.mg_names.specs.declared.context_values.ContextValue.{ContextValue}
use Rattle.mg_names.specs.declared.modes.Mode.{Mode}
use Rattle.mg_names.specs.declared.kinds.Kind.{Kind}
use Rattle.mg_names.specs.declared.phases.LinkPhase.{LinkPhase}
use Rattle.mg_names.specs.declared.phases.LinkPhase.TheVariants.{Answered, Resting}
use Rattle.mg_model.specs.declared.commands.EventsName.{EventsName}
use Rattle.mg_model.specs.declared.commands.Termination.{Termination}
use Rattle.mg_model.specs.declared.components.Spot.{Spot}
use Rattle.mg_model.specs.declared.components.Remote.{Remote}
use Rattle.mg_model.specs.Configuration.{Configuration, IsWellFormed}
use Rattle.mg_model.specs.Entries.{Entry, Component, IsCovered, choices_of, chosen, same_choice, size_of, links, spots, modes, events, plays, contexts, remotes, cuts}
use Rattle.mg_model.specs.declared.transitions.Pair.{Pair}
use Rattle.mg_model.specs.Obligations.{CreatedAreUnbound, EndedIsCleared, JoinedAreMarked, NamesAreLive}
use Rattle.mg_model.specs.Paths.{AreJoined}
use Rattle.mg_model.specs.Tables.{is_marked}
use Rattle.mg_model.specs.Script.{Script}
use Rattle.mg_model.specs.Steps.{bound_names, steps_of, steps_by_link, observation, observations, with_link, with_state}
use Rattle.closure.specs.Findings.{AreCovered}

-- one of some configurations has this value
abbrev pub HasOne : {A : Type 0} → List Configuration → (Configuration → A) → A → Type 0
HasOne some of v = (d : Configuration) × (Contains some d × (of d ≡ v))

pub record IsInHull (some : List Configuration) (c : Configuration) : Type 0 where
  pub state : HasOne some (λ d. d.state) c.state
  pub link : HasOne some (λ d. d.link) c.link
  pub spot : (t : Termination) → HasOne some (λ d. d.spot t) (c.spot t)
  pub mode : (t : Termination) → HasOne some (λ d. d.mode t) (c.mode t)
  pub events : (i : ℕ) → HasOne some (λ d. d.events i) (c.events i)
  pub plays : (i : ℕ) → HasOne some (λ d. d.plays i) (c.plays i)
  pub context : (j : ℕ) → HasOne some (λ d. d.context j) (c.context j)
  pub remote : (k : ℕ) → HasOne some (λ d. d.remote k) (c.remote k)
  pub cut : (t u : Termination) → HasOne some (λ d. d.cut t u) (c.cut t u)

-- ---- the configurations that some components make

-- each component of one configuration is as in another, or has a value of a component among these
pub record IsGiven (all : List Component) (low c : Configuration) : Type 0 where
  pub state : c.state ≡ low.state
  pub link : (c.link ≡ low.link) ⊎ ((values : List LinkPhase) × (Contains all (links values) × Contains values c.link))
  pub spot : (t : Termination) → (c.spot t ≡ low.spot t) ⊎ ((values : List Spot) × (Contains all (spots t values) × Contains values (c.spot t)))
  pub mode : (t : Termination) → (c.mode t ≡ low.mode t) ⊎ ((values : List Mode) × (Contains all (modes t values) × Contains values (c.mode t)))
  pub events : (i : ℕ) → (c.events i ≡ low.events i) ⊎ ((values : List EventsName) × (Contains all (events i values) × Contains values (c.events i)))
  pub plays : (i : ℕ) → (c.plays i ≡ low.plays i) ⊎ ((values : List Bool) × (Contains all (plays i values) × Contains values (c.plays i)))
  pub context : (j : ℕ) → (c.context j ≡ low.context j) ⊎ ((values : List ContextValue) × (Contains all (contexts j values) × Contains values (c.context j)))
  pub remote : (k : ℕ) → (c.remote k ≡ low.remote k) ⊎ ((values : List Remote) × (Contains all (remotes k values) × Contains values (c.remote k)))
  pub cut : (t u : Termination) → (c.cut t u ≡ low.cut t u) ⊎ ((values : List Bool) × (Contains all (cuts t u values) × Contains values (c.cut t u)))

-- the configuration in which each component has its first value
abbrev pub first_of : List Component → Configuration → Configuration
first_of [] c = c
first_of (component ∷ more) c = first_of more ((slice_index_or (choices_of component) 0 same_choice) c)

-- these have one, and it with each value of each of some components
pub record HaveEach (some : List Configuration) (low : Configuration) (all : List Component) : Type 0 where
  pub first : Contains some low
  pub each : (component : Component) → Contains all component → (place : ℕ) → place < length (choices_of component)
      → Contains some ((slice_index_or (choices_of component) place same_choice) low)

-- whatever some components make of a configuration is in their hull
abbrev pub AreInHull : List Configuration → List Component → Configuration → Type 0
AreInHull some components c = (k : ℕ) → k < size_of components → IsInHull some (chosen (map choices_of components) k c)

-- ---- what is known of all in the hull of some

-- these have one state, one link, and the same names bound
pub record AreAlike (some : List Configuration) (one : Configuration) : Type 0 where
  pub state : (d : Configuration) → Contains some d → d.state ≡ one.state
  pub link : (d : Configuration) → Contains some d → d.link ≡ one.link
  pub names : (d : Configuration) → Contains some d → bound_names d ≡ bound_names one

-- entries have all in their hull and well formed
abbrev pub IsHullCovered : List Entry → List Configuration → Type 0
IsHullCovered entries some = (c : Configuration) → IsInHull some c → IsWellFormed c → IsCovered entries c

-- the same of them with another link
abbrev pub IsHullLinked : List Entry → List Configuration → LinkPhase → Type 0
IsHullLinked entries some link = (c : Configuration) → IsInHull some c → IsWellFormed c → IsCovered entries (with_link c link)

-- the same of where they lead as they enter a state, if there is one
abbrev pub IsHullEntered : Script → List Entry → List Configuration → Option ℕ → Type 0
IsHullEntered script entries some target =
    (state : ℕ) → target ≡ Some state → (c : Configuration) → IsInHull some c → IsWellFormed c → IsCovered entries (with_state script c state)

-- the same of their notes of a line and kind
abbrev pub AreHullNotesCovered : Script → List Entry → List Configuration → ℕ → Kind → Type 0
AreHullNotesCovered script entries some i kind =
    (c : Configuration) → IsInHull some c → IsWellFormed c → AreCovered entries (observation script c i kind)

-- the same of all notes of a line
abbrev pub IsHullLineCovered : Script → List Entry → List Configuration → ℕ → Type 0
IsHullLineCovered script entries some i =
    (c : Configuration) → IsInHull some c → IsWellFormed c → AreCovered entries (observations script c i)

-- the same of all steps of a call at rest
abbrev pub AreHullRestsCovered : Script → List Entry → List Configuration → Type 0
AreHullRestsCovered script entries some =
    (c : Configuration) → IsInHull some c → IsWellFormed c → AreCovered entries (steps_by_link script c Resting)

-- the same of all their steps
abbrev pub AreHullStepsCovered : Script → List Entry → List Configuration → Type 0
AreHullStepsCovered script entries some = (c : Configuration) → IsInHull some c → IsWellFormed c → AreCovered entries (steps_of script c)

-- the same of where a reply without a failure leads
abbrev pub AreHullRepliesCovered : Script → List Entry → List Configuration → Type 0
AreHullRepliesCovered script entries some =
    (c : Configuration) → IsInHull some c → IsWellFormed c → AreCovered entries (steps_by_link script c Answered)

-- lines of these pairs, if they are among so many, are marked where one is joined with another in their hull
abbrev pub AreHullLinesMarked : List Pair → ℕ → List Configuration → ℕ → Type 0
AreHullLinesMarked talk lines some i =
    (j : ℕ) → j < lines → (c : Configuration) → IsInHull some c → i < lines → AreJoined c i j → IsTrue (is_marked talk i j)

-- joined lines of all in their hull are marked
abbrev pub IsHullMarked : Script → List Configuration → Type 0
IsHullMarked script some = (c : Configuration) → IsInHull some c → JoinedAreMarked script c

-- these are of one state
abbrev pub AreOfState : List Configuration → ℕ → Type 0
AreOfState some state = (d : Configuration) → Contains some d → d.state ≡ state

-- the obligations but that of joined lines
pub record AreOthersKept (script : Script) (entries : List Entry) (c : Configuration) : Type 0 where
  pub cleared : EndedIsCleared script c
  pub unbound : CreatedAreUnbound script c
  pub live : NamesAreLive c
  pub covered : AreCovered entries (steps_of script c)

-- these hold of all points that some components make of a configuration
abbrev pub IsBlockKept : Script → List Entry → List Component → Configuration → Type 0
IsBlockKept script entries components c =
    (k : ℕ) → k < size_of components → IsWellFormed (chosen (map choices_of components) k c)
    → AreOthersKept script entries (chosen (map choices_of components) k c)

-- joined lines are marked in all that some components make of a configuration
abbrev pub IsBlockMarked : Script → List Component → Configuration → Type 0
IsBlockMarked script components c = (k : ℕ) → k < size_of components → JoinedAreMarked script (chosen (map choices_of components) k c)

-- An entry of a certificate: for one state a set of values for each component of a configuration. It denotes the
-- configurations of the state that are well formed and have each component in its set. The points of an entry number
-- the whole product of the sets, in mixed radix, the last component changing fastest. This profile's own.
-- A reader should check that each component's values are the choices that the numbering makes, and the values that the
-- entry allows. Which components an entry has, and in which order, is the certificate's format.
use Rattle.std.specs.Prelude.{◌≡◌, ℕ, zero, suc, ◌+◌, ◌⊎◌, ◌*◌, ◌/◌, ◌%◌, ◌<◌, Bool, List, [], ◌∷◌, map, length, slice_index_or, Contains}
use Rattle.std.specs.List.{All}
use Rattle.mg_names.specs.declared.modes.Mode.{Mode}
use Rattle.mg_names.specs.declared.phases.LinkPhase.{LinkPhase}
use Rattle.mg_names.specs.declared.phases.LinkPhase.TheVariants.{Resting}
use Rattle.mg_names.specs.declared.context_values.ContextValue.{ContextValue}
use Rattle.mg_model.specs.declared.commands.EventsName.{EventsName}
use Rattle.mg_model.specs.declared.commands.EventsName.TheVariants.{Empty}
use Rattle.mg_model.specs.declared.commands.Termination.{Termination}
use Rattle.mg_model.specs.declared.components.Spot.{Spot}
use Rattle.mg_model.specs.declared.components.Remote.{Remote}
use Rattle.mg_model.specs.Updates.{with_at}
use Rattle.mg_model.specs.Configuration.{Configuration, IsWellFormed, with_of}
use Rattle.mg_model.specs.Effects.{with_pair}
use Rattle.mg_model.specs.Steps.{unused}

-- a component with the values that an entry allows it, each once, in the order of the format's table
pub data Component : Type 0 where
  links : List LinkPhase → Component
  spots : Termination → List Spot → Component
  modes : Termination → List Mode → Component
  events : ℕ → List EventsName → Component
  plays : ℕ → List Bool → Component
  contexts : ℕ → List ContextValue → Component
  remotes : ℕ → List Remote → Component
  cuts : Termination → Termination → List Bool → Component

-- an entry: its state, how many lines the script has, and its components in their order
pub record Entry : Type 0 where
  pub state : ℕ
  pub lines : ℕ
  pub components : List Component

-- a value of a component, as the change that it makes to a configuration
abbrev pub Choice : Type 0
Choice = Configuration → Configuration

abbrev pub link_choice : LinkPhase → Choice
link_choice link c = record c { link = link }

abbrev pub spot_choice : Termination → Spot → Choice
spot_choice t spot c = record c { spot = with_of c.spot t spot }

abbrev pub mode_choice : Termination → Mode → Choice
mode_choice t mode c = record c { mode = with_of c.mode t mode }

abbrev pub events_choice : ℕ → EventsName → Choice
events_choice i list c = record c { events = with_at c.events i list }

abbrev pub plays_choice : ℕ → Bool → Choice
plays_choice i may c = record c { plays = with_at c.plays i may }

abbrev pub context_choice : ℕ → ContextValue → Choice
context_choice j value c = record c { context = with_at c.context j value }

abbrev pub remote_choice : ℕ → Remote → Choice
remote_choice k remote c = record c { remote = with_at c.remote k remote }

abbrev pub cut_choice : Termination → Termination → Bool → Choice
cut_choice t u value c = record c { cut = with_pair c.cut t u value }

-- the whole product of these sets
abbrev pub product : List (List Choice) → ℕ
product [] = 1
product (choices ∷ more) = length choices * product more

abbrev pub same_choice : Choice
same_choice c = c

-- the choices with this number, made in order
abbrev pub chosen : List (List Choice) → ℕ → Configuration → Configuration
chosen [] number c = c
chosen (choices ∷ more) number c =
    chosen more (number % product more) ((slice_index_or choices (number / product more) same_choice) c)

-- the values of a component, as choices
abbrev pub choices_of : Component → List Choice
choices_of (links values) = map link_choice values
choices_of (spots t values) = map (spot_choice t) values
choices_of (modes t values) = map (mode_choice t) values
choices_of (events i values) = map (events_choice i) values
choices_of (plays i values) = map (plays_choice i) values
choices_of (contexts j values) = map (context_choice j) values
choices_of (remotes k values) = map (remote_choice k) values
choices_of (cuts t u values) = map (cut_choice t u) values

-- the whole product
abbrev pub size_of : List Component → ℕ
size_of components = product (map choices_of components)

-- the configuration with a number, well formed or not
abbrev pub numbered : Entry → ℕ → Configuration
numbered entry number = chosen (map choices_of entry.components) number (unused entry.lines entry.state Resting Empty)

-- the component has the configuration's value
abbrev pub Allows : Configuration → Component → Type 0
Allows c (links values) = Contains values c.link
Allows c (spots t values) = Contains values (c.spot t)
Allows c (modes t values) = Contains values (c.mode t)
Allows c (events i values) = Contains values (c.events i)
Allows c (plays i values) = Contains values (c.plays i)
Allows c (contexts j values) = Contains values (c.context j)
Allows c (remotes k values) = Contains values (c.remote k)
Allows c (cuts t u values) = Contains values (c.cut t u)

-- the configurations that an entry denotes
abbrev pub Includes : Entry → Configuration → Type 0
Includes entry c = (c.state ≡ entry.state) × IsWellFormed c × All (Allows c) entry.components

-- the points of an entry: those of its numbers whose configuration is well formed
abbrev pub IsPointOf : Entry → ℕ → Configuration → Type 0
IsPointOf entry number c =
    (number < size_of entry.components) × (c ≡ numbered entry number) × IsWellFormed c

-- some entry has the configuration
abbrev pub IsCovered : List Entry → Configuration → Type 0
IsCovered entries c = (entry : Entry) × (Contains entries entry × Includes entry c)

-- ---- how many points there are

-- so many of the numbers below n are points of the entry: the last is one more, or it is none
abbrev pub HasPointsBelow : Entry → ℕ → ℕ → Type 0
HasPointsBelow entry zero count = count ≡ 0
HasPointsBelow entry (suc n) count =
    (IsWellFormed (numbered entry n) × ((before : ℕ) × (HasPointsBelow entry n before × (count ≡ before + 1))))
    ⊎ ((IsWellFormed (numbered entry n) → ⊥) × HasPointsBelow entry n count)

-- the entry has so many points
abbrev pub HasPoints : Entry → ℕ → Type 0
HasPoints entry count = HasPointsBelow entry (size_of entry.components) count

-- the entries have so many points together
abbrev pub HavePoints : List Entry → ℕ → Type 0
HavePoints [] count = count ≡ 0
HavePoints (entry ∷ more) count =
    (first : ℕ) × ((rest : ℕ) × (HasPoints entry first × (HavePoints more rest × (count ≡ first + rest))))

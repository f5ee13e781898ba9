-- A configuration: what the checker knows of one call between two steps. It has no identifiers, hooks, digits or
-- messages. Lines, contexts and ephemerals go by their places in the script's tables. This profile's own.
-- A reader should check that each component is one that a certificate lists, and that well formed says no more than
-- what every configuration of a real call has.
use Rattle.std.specs.Prelude.{◌≡◌, ℕ, ◌==◌, Bool, true, false, if◌then◌else◌, IsTrue, List, [], ◌∷◌}
use Rattle.std.specs.List.{list_any}
use Rattle.mg_names.specs.declared.modes.Mode.{Mode}
use Rattle.mg_names.specs.declared.modes.Mode.TheVariants.{Inactive}
use Rattle.mg_names.specs.declared.phases.LinkPhase.{LinkPhase}
use Rattle.mg_names.specs.declared.context_values.ContextValue.{ContextValue}
use Rattle.mg_names.specs.declared.context_values.ContextValue.TheVariants.{Free, Live, Stale}
use Rattle.mg_model.specs.declared.commands.Termination.{Termination}
use Rattle.mg_model.specs.declared.commands.Termination.TheVariants.{Line, Ephemeral}
use Rattle.mg_model.specs.declared.commands.EventsName.{EventsName}
use Rattle.mg_model.specs.declared.components.Spot.{Spot}
use Rattle.mg_model.specs.declared.components.Spot.TheVariants.{Absent, Null, In}
use Rattle.mg_model.specs.declared.components.Remote.{Remote}
use Rattle.mg_model.specs.declared.components.Remote.TheVariants.{Unset, Gone, To}

pub record Configuration : Type 0 where
  -- the state that the call is in, by its place
  pub state : ℕ
  -- how far the state's request has come
  pub link : LinkPhase
  -- where each termination stands
  pub spot : Termination → Spot
  pub mode : Termination → Mode
  -- of each line, its events list and whether it may play a signal
  pub events : ℕ → EventsName
  pub plays : ℕ → Bool
  -- what each context name stands for
  pub context : ℕ → ContextValue
  -- of each ephemeral
  pub remote : ℕ → Remote
  -- whether media from the one to the other is cut
  pub cut : Termination → Termination → Bool

-- whether two terminations are one
abbrev pub is_same : Termination → Termination → Bool
is_same (Line i) (Line j) = i == j
is_same (Line i) (Ephemeral j) = false
is_same (Ephemeral i) (Line j) = false
is_same (Ephemeral i) (Ephemeral j) = i == j

abbrev pub is_in : Spot → ℕ → Bool
is_in Absent j = false
is_in Null j = false
is_in (In i) j = i == j

abbrev pub is_null : Spot → Bool
is_null Null = true
is_null Absent = false
is_null (In j) = false

abbrev pub is_present : Spot → Bool
is_present Absent = false
is_present Null = true
is_present (In j) = true

abbrev pub is_free : ContextValue → Bool
is_free Free = true
is_free Live = false
is_free Stale = false

abbrev pub is_live : ContextValue → Bool
is_live Live = true
is_live Free = false
is_live Stale = false

abbrev pub is_to : Remote → ℕ → Bool
is_to Unset j = false
is_to Gone j = false
is_to (To i) j = i == j

-- the terminations that a script can name: at most four lines and four ephemerals
abbrev pub terminations : List Termination
terminations =
    Line 0 ∷ Line 1 ∷ Line 2 ∷ Line 3 ∷ Ephemeral 0 ∷ Ephemeral 1 ∷ Ephemeral 2 ∷ Ephemeral 3 ∷ []

-- a context exists exactly where a termination stands in it
abbrev pub stands_in : (Termination → Spot) → ℕ → Bool
stands_in spot j = list_any (λ t. is_in (spot t) j) terminations

-- what a name stands for, given whether it is bound and whether its context exists
abbrev pub value_of : ContextValue → Bool → ContextValue
value_of Free exists = Free
value_of Live exists = if exists then Live else Stale
value_of Stale exists = if exists then Live else Stale

-- the context names say what the places of the terminations make them
abbrev pub settled : Configuration → Configuration
settled c = record c { context = λ j. value_of (c.context j) (stands_in c.spot j) }

-- what every configuration of a call has
pub record IsWellFormed (c : Configuration) : Type 0 where
  -- a context is live exactly where a termination stands in it
  pub live : (j : ℕ) → is_live (c.context j) ≡ stands_in c.spot j
  -- an ephemeral that does not exist is Inactive, with no Remote
  pub absent_mode : (k : ℕ) → c.spot (Ephemeral k) ≡ Absent → c.mode (Ephemeral k) ≡ Inactive
  pub absent_remote : (k : ℕ) → c.spot (Ephemeral k) ≡ Absent → c.remote k ≡ Unset
  -- a Remote that is a name names an ephemeral that exists
  pub named : (k i : ℕ) → c.remote k ≡ To i → IsTrue (is_present (c.spot (Ephemeral i)))
  -- a pair that is cut stands in one context that is not the null context
  pub cut_within : (t u : Termination) → IsTrue (c.cut t u) →
      (j : ℕ) × (IsTrue (is_in (c.spot t) j) × IsTrue (is_in (c.spot u) j))

-- f but for one termination, where it is v
abbrev pub with_of : {A : Type 0} → (Termination → A) → Termination → A → Termination → A
with_of f t v = λ u. if is_same u t then v else f u

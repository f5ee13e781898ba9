-- Which components make no configuration well formed or ill formed, so that one value of theirs tells how many points there are with each. No public
-- clause speaks of these words.
use Rattle.std.specs.Prelude.{◌≡◌, ◌⊎◌, ℕ, ◌+◌, ⊤, IsTrue, List, Contains}
use Rattle.mg_model.specs.declared.commands.Termination.{Termination}
use Rattle.mg_model.specs.declared.components.Spot.{Spot}
use Rattle.mg_model.specs.Script.{Script}
use Rattle.mg_model.specs.Configuration.{Configuration, is_in, is_present}
use Rattle.mg_model.specs.Entries.{Entry, Component, size_of, links, spots, modes, events, plays, contexts, remotes, cuts}
use Rattle.closure.specs.Hulls.{IsBlockKept, IsBlockMarked}
use Rattle.closure.specs.Walk.{AreNumbered, HasPassed}

-- no component among these gives a termination its place
abbrev pub NoneGivesPlace : List Component → Termination → Type 0
NoneGivesPlace rest t = (values : List Spot) → Contains rest (spots t values) → ⊥

-- two stand in one context
abbrev pub StandTogether : Configuration → Termination → Termination → Type 0
StandTogether c t u = (j : ℕ) × (IsTrue (is_in (c.spot t) j) × IsTrue (is_in (c.spot u) j))

module _ (rest : List Component) (low : Configuration) where
  -- a termination exists and keeps its place, whatever the rest of the components give: no mode of it is ill formed
  abbrev pub IsModeFree : Termination → Type 0
  IsModeFree t = IsTrue (is_present (low.spot t)) × NoneGivesPlace rest t

  -- two stand in one context and keep their places: whether they are cut makes nothing ill formed
  abbrev pub IsCutFree : Termination → Termination → Type 0
  IsCutFree t u = StandTogether low t u × (NoneGivesPlace rest t × NoneGivesPlace rest u)

  -- whatever value a component has, what the rest make of a configuration is well formed with each or with none
  abbrev pub KeepsWellformedness : Component → Type 0
  KeepsWellformedness (links values) = ⊥
  KeepsWellformedness (spots t values) = ⊥
  KeepsWellformedness (modes t values) = IsModeFree t
  KeepsWellformedness (events i values) = ⊤
  KeepsWellformedness (plays i values) = ⊤
  KeepsWellformedness (contexts j values) = ⊥
  KeepsWellformedness (remotes k values) = ⊥
  KeepsWellformedness (cuts t u values) = IsCutFree t u

  -- another configuration differs in such components alone
  pub record HasForm (c : Configuration) : Type 0 where
    pub spot : (t : Termination) → c.spot t ≡ low.spot t
    pub context : (j : ℕ) → c.context j ≡ low.context j
    pub remote : (k : ℕ) → c.remote k ≡ low.remote k
    pub mode : (t : Termination) → (c.mode t ≡ low.mode t) ⊎ IsModeFree t
    pub cut : (t u : Termination) → (c.cut t u ≡ low.cut t u) ⊎ IsCutFree t u

  module _ (script : Script) (entries : List Entry) where
    -- of each configuration that has this form, where no obligation of what the components make of it is broken: nothing is broken in its first numbers,
    -- whatever entry they are numbers of, and so many of them are points
    abbrev pub AreCounted : ℕ → ℕ → Type 0
    AreCounted numbers points =
        (entry : Entry) (c : Configuration) (number before : ℕ) → HasForm c → IsBlockKept script entries rest c → IsBlockMarked script rest c
        → AreNumbered entry number rest c → HasPassed script entries entry number before
        → HasPassed script entries entry (number + numbers) (before + points)

    -- so it is of all their numbers
    abbrev pub AreAllCounted : ℕ → Type 0
    AreAllCounted points = AreCounted (size_of rest) points

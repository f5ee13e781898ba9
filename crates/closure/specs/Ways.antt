-- What is known of points where it is said how they are passed. No public clause speaks of these words.
use Rattle.std.specs.Prelude.{ℕ, ◌+◌, ◌≤◌, ⊤, IsTrue, List}
use Rattle.mg_model.specs.Script.{Script}
use Rattle.mg_model.specs.Configuration.{Configuration}
use Rattle.mg_model.specs.Entries.{Entry, Component, size_of}
use Rattle.closure.specs.Hulls.{IsBlockKept}
use Rattle.closure.specs.Walk.{AreNumbered, HasPassed}
use Rattle.closure.specs.declared.way.Way.{Way}
use Rattle.closure.specs.declared.way.Way.TheVariants as way

-- whatever entry some components make numbers of, going on from a configuration: nothing is broken in these, and so many of them are points
abbrev pub BlockIsPassed : Script → List Entry → List Component → Configuration → ℕ → Type 0
BlockIsPassed script entries components c points =
    (points ≤ size_of components) × ((entry : Entry) (number before : ℕ) → AreNumbered entry number components c
    → HasPassed script entries entry number before → HasPassed script entries entry (number + size_of components) (before + points))

abbrev pub IsWay : Script → List Entry → List Component → Configuration → Way → Type 0
IsWay script entries components c (way.Counted points) = BlockIsPassed script entries components c points
IsWay script entries components c (way.Walked kept) = IsTrue kept → IsBlockKept script entries components c
IsWay script entries components c way.Split = ⊤

-- A certificate as it is written: texts, before any name in it is looked up.
use Rattle.std.specs.Prelude.{ℕ, Bool, List, Option}

abbrev pub Text : Type 0
Text = List ℕ

-- what is written for a line; what is left out has its default
pub record Line : Type 0 where
  pub at : Option (List Text)
  pub mode : Option (List Text)
  pub events : Option (List Text)
  pub plays : Option (List Text)

-- what is written for an ephemeral
pub record Ephemeral : Type 0 where
  pub at : Option (List Text)
  pub mode : Option (List Text)
  pub remote : Option (List Text)

-- what is written for a state; the objects with free keys are lists of their members
pub record Entry : Type 0 where
  pub state : Text
  pub link : List Text
  pub lines : List (Text × Line)
  pub contexts : List (Text × List Text)
  pub ephemerals : List (Text × Ephemeral)
  pub cuts : List (Text × List Text)

-- the whole: its entries, and whether it is written by the version before
pub record Document : Type 0 where
  pub is_old : Bool
  pub entries : List Entry

-- A document as it is written: every mention of a thing is still its name. Names and texts are bytes.
use Rattle.std.specs.Prelude.{ℕ, List, Bool, Option}
use Rattle.mg_names.specs.declared.signals.Signal.{Signal}
use Rattle.scriptreader.specs.declared.syntax.WrittenItem.{WrittenItem}
use Rattle.scriptreader.specs.declared.syntax.WrittenMap.{WrittenMap}
use Rattle.scriptreader.specs.declared.syntax.WrittenCommand.{WrittenCommand}
use Rattle.scriptreader.specs.declared.syntax.WrittenPair.{WrittenPair}
use Rattle.scriptreader.specs.declared.syntax.WrittenTransition.{WrittenTransition}

pub record Events : Type 0 where
  pub name : List ℕ
  pub items : List WrittenItem

pub record Signals : Type 0 where
  pub name : List ℕ
  pub items : List Signal

pub record State : Type 0 where
  pub name : List ℕ
  pub commands : List WrittenCommand
  pub talk : List WrittenPair
  pub is_end : Bool
  pub ok : Option (List ℕ)
  pub fault : Option (List ℕ)
  pub timer : Option (List ℕ)
  pub on : List WrittenTransition

pub record Document : Type 0 where
  pub lines : List (List ℕ)
  pub contexts : List (List ℕ)
  pub ephemerals : List (List ℕ)
  pub start : Option (List ℕ)
  pub restart : Option (List ℕ)
  pub events : List Events
  pub signals : List Signals
  pub maps : List WrittenMap
  pub states : List State

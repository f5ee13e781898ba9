-- The table of a call control script: what a document that is accepted means. Names are the bytes of their texts, and
-- every other mention of a thing is by its place from 0. A reader should check that nothing here depends on how a
-- document spells it.
use Rattle.std.specs.Prelude.{ℕ, List, Bool, Option}
use Rattle.mg_names.specs.declared.signals.Signal.{Signal}
use Rattle.mg_model.specs.declared.commands.Command.{Command}
use Rattle.mg_model.specs.declared.positions.Position.{Position}
use Rattle.mg_model.specs.declared.transitions.EventItem.{EventItem}
use Rattle.mg_model.specs.declared.transitions.Transition.{Transition}
use Rattle.mg_model.specs.declared.transitions.Pair.{Pair}

-- an events list of the script's own: its name, and its items in their order
pub record EventsList : Type 0 where
  pub name : List ℕ
  pub items : List (EventItem ℕ)

-- a signals list of the script's own
pub record SignalsList : Type 0 where
  pub name : List ℕ
  pub items : List Signal

-- a digit map is its alternatives, and an alternative its positions (H.248.1 section 7.1.14)
abbrev pub DigitMap : Type 0
DigitMap = List (List Position)

pub record NamedMap : Type 0 where
  pub name : List ℕ
  pub map : DigitMap

-- a state: its request's commands, the pairs of lines that it marks as talking, whether a call ends in it, and where
-- it leads: after a reply without a failure, after one with a failure, when the timer ends, and on notes
pub record State : Type 0 where
  pub name : List ℕ
  pub commands : List Command
  pub talk : List Pair
  pub is_end : Bool
  pub ok : Option ℕ
  pub fault : Option ℕ
  pub timer : Option ℕ
  pub on : List Transition

pub record Script : Type 0 where
  pub lines : List (List ℕ)
  pub contexts : List (List ℕ)
  pub ephemerals : List (List ℕ)
  pub lists : List EventsList
  pub signals : List SignalsList
  pub maps : List NamedMap
  pub states : List State
  pub start : ℕ
  pub restart : ℕ

-- Entries for scripts of two lines without ephemerals and with at most one context, in which each component but the link has one value:
-- each line stands at a place, and both are silent and have one events list, but for one whose place has a list of its own. A reader should
-- check that the components stand in the order of the format's table.
use Rattle.std.specs.Prelude.{ℕ, false, List, [], ◌∷◌, ◌++◌, Option, Some, None, unwrap_or}
use Rattle.mg_names.specs.declared.context_values.ContextValue.{ContextValue}
use Rattle.mg_names.specs.declared.modes.Mode.{Mode}
use Rattle.mg_names.specs.declared.modes.Mode.TheVariants.{Inactive, SendReceive}
use Rattle.mg_names.specs.declared.phases.LinkPhase.{LinkPhase}
use Rattle.mg_model.specs.declared.commands.EventsName.{EventsName}
use Rattle.mg_model.specs.declared.commands.EventsName.TheVariants.{Empty}
use Rattle.mg_model.specs.declared.commands.Termination.TheVariants.{Line}
use Rattle.mg_model.specs.declared.components.Spot.{Spot}
use Rattle.mg_model.specs.declared.components.Spot.TheVariants.{Null, In}
use Rattle.mg_model.specs.Entries.{Entry, Component, links, spots, modes, events, plays, contexts, cuts}

-- where the script has a context, its value
abbrev pub contexts_of : Option ContextValue → List Component
contexts_of None = []
contexts_of (Some value) = contexts 0 (value ∷ []) ∷ []

-- where a line stands, its mode, and its events list where that isn't the one of both lines
pub record Place : Type 0 where
  pub spot : Spot
  pub mode : Mode
  pub own : Option EventsName

-- in the null context, and in the first context: with nothing set, and in talk
abbrev pub null : Place
null = record { spot = Null; mode = Inactive; own = None }

abbrev pub alone : Place
alone = record { spot = In 0; mode = Inactive; own = None }

abbrev pub talking : Place
talking = record { spot = In 0; mode = SendReceive; own = None }

-- in the null context after it was subtracted: its list is empty
abbrev pub subtracted : Place
subtracted = record { spot = Null; mode = Inactive; own = Some Empty }

abbrev pub list_at : Place → EventsName → EventsName
list_at place list = unwrap_or place.own list

-- the components of a line, and those of the two cuts
abbrev pub line_of : ℕ → EventsName → Place → List Component
line_of i list place =
    spots (Line i) (place.spot ∷ []) ∷ modes (Line i) (place.mode ∷ []) ∷ events i (list_at place list ∷ []) ∷ plays i (false ∷ []) ∷ []

abbrev pub no_cuts : List Component
no_cuts = cuts (Line 0) (Line 1) (false ∷ []) ∷ cuts (Line 1) (Line 0) (false ∷ []) ∷ []

abbrev pub entry_of : ℕ → List LinkPhase → EventsName → Place → Place → Option ContextValue → Entry
entry_of state link list first second value = record {
  state = state;
  lines = 2;
  components = links link ∷ line_of 0 list first ++ line_of 1 list second ++ contexts_of value ++ no_cuts;
}

-- What is looked up by its name in a script's table, and a digit map by its place. A reader should check the two names that are
-- predefined, `none` and `armed`.
use Rattle.std.specs.Prelude.{ℕ, List, if◌then◌else◌, Option, Some, option_map, codes, slice_get, position}
use Rattle.std.specs.Str.{bytes_eq}
use Rattle.mg_model.specs.declared.commands.EventsName.{EventsName}
use Rattle.mg_model.specs.declared.commands.EventsName.TheVariants.{Empty, Armed, Own}
use Rattle.mg_model.specs.Script.{EventsList, NamedMap, DigitMap, State}

-- the place of a name among names
abbrev pub place_of : List ℕ → List (List ℕ) → Option ℕ
place_of name names = position (λ other. bytes_eq name other) names

-- the state of a name
abbrev pub state_named : List ℕ → List State → Option ℕ
state_named name states = position (λ state. bytes_eq name state.name) states

-- the events list of a name
abbrev pub list_named : List ℕ → List EventsList → Option EventsName
list_named name lists =
    if bytes_eq name (codes "none") then Some Empty
    else if bytes_eq name (codes "armed") then Some Armed
    else option_map (λ place. Own place) (position (λ list. bytes_eq name list.name) lists)

-- the alternatives of the map at a place
abbrev pub map_at : ℕ → List NamedMap → Option DigitMap
map_at place maps = option_map (λ named. named.map) (slice_get maps place)

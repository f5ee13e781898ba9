-- The tables of a document. A reader should check each key, whether it may be left out, and what it holds.
use Rattle.std.specs.Prelude.{ℕ, List, [], ◌∷◌, ◌++◌, length, false, nat_le, unwrap_or, codes, Option, Some, None}
use Rattle.toml.specs.Data.{Data, Members, no_members, member, get_member, as_str, as_table, as_bool}
use Rattle.mg_names.specs.Words.{signal_named, kind_named}
use Rattle.mg_names.specs.declared.signals.Signal.{Signal}
use Rattle.scriptreader.specs.declared.syntax.WrittenItem.{WrittenItem}
use Rattle.scriptreader.specs.declared.syntax.WrittenMap.{WrittenMap}
use Rattle.scriptreader.specs.declared.syntax.WrittenCommand.{WrittenCommand}
use Rattle.scriptreader.specs.declared.syntax.WrittenPair.{WrittenPair}
use Rattle.scriptreader.specs.declared.syntax.WrittenTransition.{WrittenTransition}
use Rattle.scriptreader.specs.Written.{Events, Signals, State, Document}
use Rattle.typed_values.specs.Names.{is_name}
use Rattle.typed_values.specs.Shape.{◌>>=◌, only_if}
use Rattle.typed_values.specs.Texts.{words_of}
use Rattle.typed_values.specs.Keys.{list_of, needed, optional, listed, has_only}
use Rattle.scriptreader.specs.Texts.{item_of, pair_of, command_of}

abbrev pub item_meant : Data → Option WrittenItem
item_meant d = as_str d >>= item_of

abbrev pub signal_meant : Data → Option Signal
signal_meant d = as_str d >>= signal_named

abbrev pub pair_meant : Data → Option WrittenPair
pair_meant d = as_str d >>= pair_of

abbrev pub command_meant : Data → Option WrittenCommand
command_meant d = as_str d >>= λ text. command_of (words_of text)

-- an entry of `events`
unfoldable pub events_in : Members → Option Events
events_in t = only_if (has_only (codes "name" ∷ codes "list" ∷ []) t) (do
  name ← needed as_str (codes "name") t
  items ← needed (list_of item_meant) (codes "list") t
  Some (record { name = name; items = items }))

-- an entry of `signals`
unfoldable pub signals_in : Members → Option Signals
signals_in t = only_if (has_only (codes "name" ∷ codes "list" ∷ []) t) (do
  name ← needed as_str (codes "name") t
  items ← needed (list_of signal_meant) (codes "list") t
  Some (record { name = name; items = items }))

-- an entry of `maps`
unfoldable pub map_in : Members → Option WrittenMap
map_in t = only_if (has_only (codes "name" ∷ codes "map" ∷ []) t) (do
  name ← needed as_str (codes "name") t
  text ← needed as_str (codes "map") t
  Some (record { name = name; text = text }))

-- where one kind of note of a line leads
abbrev pub transition_of : List ℕ → List ℕ → Data → Option WrittenTransition
transition_of line kind d = do
  kind ← kind_named kind
  target ← as_str d
  Some (record { line = line; kind = kind; target = target })

-- the kinds of one line, each with the state that it leads to
unfoldable pub kinds_of : List ℕ → Members → Option (List WrittenTransition)
kinds_of line no_members = Some []
kinds_of line (member kind d more) = do
  first ← transition_of line kind d
  others ← kinds_of line more
  Some (first ∷ others)

unfoldable pub line_of : List ℕ → Data → Option (List WrittenTransition)
line_of line d = only_if (is_name line) (as_table d >>= kinds_of line)

-- the lines of `on`, each with its kinds
unfoldable pub lines_of : Members → Option (List WrittenTransition)
lines_of no_members = Some []
lines_of (member line d more) = do
  first ← line_of line d
  others ← lines_of more
  Some (first ++ others)

-- these, and then what a shape gives
abbrev pub added_to : List WrittenTransition → Option (List WrittenTransition) → Option (List WrittenTransition)
added_to front shape = shape >>= λ xs. Some (front ++ xs)

abbrev pub on_at : Option Data → Option (List WrittenTransition)
on_at None = Some []
on_at (Some d) = as_table d >>= lines_of

abbrev pub state_keys : List (List ℕ)
state_keys = codes "name" ∷ codes "do" ∷ codes "talk" ∷ codes "end" ∷ codes "ok" ∷ codes "fault" ∷ codes "timer" ∷ codes "on" ∷ []

-- an entry of `state`
unfoldable pub state_in : Members → Option State
state_in t = only_if (has_only state_keys t) (do
  name ← needed as_str (codes "name") t
  commands ← listed command_meant (codes "do") t
  talk ← listed pair_meant (codes "talk") t
  is_end ← optional as_bool (codes "end") t
  ok ← optional as_str (codes "ok") t
  fault ← optional as_str (codes "fault") t
  timer ← optional as_str (codes "timer") t
  on ← on_at (get_member (codes "on") t)
  Some (record { name = name; commands = commands; talk = talk; is_end = unwrap_or is_end false; ok = ok; fault = fault; timer = timer; on = on }))

abbrev pub events_meant : Data → Option Events
events_meant d = as_table d >>= events_in

abbrev pub signals_meant : Data → Option Signals
signals_meant d = as_table d >>= signals_in

abbrev pub map_meant : Data → Option WrittenMap
map_meant d = as_table d >>= map_in

abbrev pub state_meant : Data → Option State
state_meant d = as_table d >>= state_in

abbrev pub document_keys : List (List ℕ)
document_keys = codes "lines" ∷ codes "contexts" ∷ codes "ephemerals" ∷ codes "start" ∷ codes "restart" ∷ codes "events" ∷ codes "signals" ∷ codes "maps" ∷ codes "state" ∷ []

-- a whole document, which has two lines at least
unfoldable pub document_in : Members → Option Document
document_in t = only_if (has_only document_keys t) (do
  lines ← needed (list_of as_str) (codes "lines") t
  contexts ← listed as_str (codes "contexts") t
  ephemerals ← listed as_str (codes "ephemerals") t
  start ← optional as_str (codes "start") t
  restart ← optional as_str (codes "restart") t
  events ← listed events_meant (codes "events") t
  signals ← listed signals_meant (codes "signals") t
  maps ← listed map_meant (codes "maps") t
  states ← listed state_meant (codes "state") t
  only_if (nat_le 2 (length lines)) (Some (record { lines = lines; contexts = contexts; ephemerals = ephemerals; start = start; restart = restart; events = events; signals = signals; maps = maps; states = states })))

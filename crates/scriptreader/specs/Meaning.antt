-- The table that a document means: every mention of a thing is its place, from 0, among those that are declared. Where a
-- name isn't among those that it is looked up in, or the document is past a limit, there is no table. A reader should
-- check in which list each name is looked up.
use Rattle.std.specs.Prelude.{ℕ, List, map, Bool, not, nat_lt, codes, if◌then◌else◌, Option, Some, None, Result, Ok, Err}
use Rattle.std.specs.Str.{bytes_eq}
use Rattle.digits.specs.declared.fault.MapFault.{MapFault}
use Rattle.digits.specs.Reading.{map_of}
use Rattle.mg_model.specs.declared.commands.Command.{Command}
use Rattle.mg_model.specs.declared.commands.Command.TheVariants.{AddLine, AddEphemeral, ModifyLine, ModifyEphemeral, MoveLine, MoveEphemeral, Subtract, SubtractAll, SetTopology}
use Rattle.mg_model.specs.declared.commands.EphemeralOptions.{EphemeralOptions}
use Rattle.mg_model.specs.declared.commands.EventsName.{EventsName}
use Rattle.mg_model.specs.declared.commands.EventsName.TheVariants.{Empty, Armed, Own}
use Rattle.mg_model.specs.declared.commands.LineOptions.{LineOptions}
use Rattle.mg_model.specs.declared.commands.Place.{Place}
use Rattle.mg_model.specs.declared.commands.Place.TheVariants.{NullContext, Context}
use Rattle.mg_model.specs.declared.commands.RemoteOption.{RemoteOption}
use Rattle.mg_model.specs.declared.commands.RemoteOption.TheVariants.{NoneGiven, Peer}
use Rattle.mg_model.specs.declared.commands.SignalsName.{SignalsName}
use Rattle.mg_model.specs.declared.commands.SignalsName.TheVariants.{Silent, OwnSignals}
use Rattle.mg_model.specs.declared.commands.Termination.{Termination}
use Rattle.mg_model.specs.declared.commands.Termination.TheVariants.{Line, Ephemeral}
use Rattle.mg_model.specs.declared.transitions.EventItem.{EventItem}
use Rattle.mg_model.specs.declared.transitions.EventItem.TheVariants.{OnHook, OffHook, Flash, Digits}
use Rattle.mg_model.specs.declared.transitions.Pair.{Pair}
use Rattle.mg_model.specs.declared.transitions.Transition.{Transition}
use Rattle.mg_model.specs.Script.{EventsList, SignalsList, NamedMap, State, Script}
use Rattle.mg_names.specs.declared.topologies.Topology.{Topology}
use Rattle.scriptreader.specs.declared.syntax.Options.{Options}
use Rattle.scriptreader.specs.declared.syntax.WrittenCommand.{WrittenCommand}
use Rattle.scriptreader.specs.declared.syntax.WrittenCommand.TheVariants as written
use Rattle.scriptreader.specs.declared.syntax.WrittenItem.{WrittenItem}
use Rattle.scriptreader.specs.declared.syntax.WrittenItem.TheVariants as item
use Rattle.scriptreader.specs.declared.syntax.WrittenMap.{WrittenMap}
use Rattle.scriptreader.specs.declared.syntax.WrittenPair.{WrittenPair}
use Rattle.scriptreader.specs.declared.syntax.WrittenTransition.{WrittenTransition}
use Rattle.scriptreader.specs.Written as document
use Rattle.typed_values.specs.Names.{is_among}
use Rattle.typed_values.specs.Shape.{◌>>=◌, only_if, each, optional_at}
use Rattle.script_table.specs.Table.{place_of}
use Rattle.scriptreader.specs.Limits.{is_too_large}
use Rattle.scriptreader.specs.DeclaredNames.{Scope, scope_of}

-- ---- names

-- the place of a line, a context or an ephemeral, of which there are four at most
abbrev pub slot_for : List (List ℕ) → List ℕ → Option ℕ
slot_for names name = place_of name names >>= λ place. only_if (nat_lt place 4) (Some place)

-- the place of an events list, of which there are sixteen at most
abbrev pub list_place_for : List (List ℕ) → List ℕ → Option ℕ
list_place_for names name = place_of name names >>= λ place. only_if (nat_lt place 16) (Some place)

-- the place of a signals list, a map or a state, a number of 8 bits
abbrev pub number_for : List (List ℕ) → List ℕ → Option ℕ
number_for names name = place_of name names >>= λ place. only_if (nat_lt place 256) (Some place)

-- `none` and `armed` are predefined
abbrev pub events_for : Scope → List ℕ → Option EventsName
events_for k name =
    if bytes_eq name (codes "none") then Some Empty
    else if bytes_eq name (codes "armed") then Some Armed
    else list_place_for k.events name >>= λ place. Some (Own place)

abbrev pub signals_for : Scope → List ℕ → Option SignalsName
signals_for k name =
    if bytes_eq name (codes "none") then Some Silent
    else number_for k.signals name >>= λ place. Some (OwnSignals place)

abbrev pub remote_for : Scope → List ℕ → Option RemoteOption
remote_for k name =
    if bytes_eq name (codes "none") then Some NoneGiven
    else slot_for k.ephemerals name >>= λ ephemeral. Some (Peer ephemeral)

-- a name of a line, or else of an ephemeral
abbrev pub termination_for : Scope → List ℕ → Option Termination
termination_for k name =
    if is_among name k.lines
    then (slot_for k.lines name >>= λ line. Some (Line line))
    else slot_for k.ephemerals name >>= λ ephemeral. Some (Ephemeral ephemeral)

-- the null context where no name is written
abbrev pub place_for : Scope → Option (List ℕ) → Option Place
place_for k None = Some NullContext
place_for k (Some name) = slot_for k.contexts name >>= λ context. Some (Context context)

-- ---- commands

abbrev pub line_options_for : Scope → Options → Option LineOptions
line_options_for k options = do
  events ← optional_at (events_for k) options.events
  signals ← optional_at (signals_for k) options.signals
  Some (record { mode = options.mode; events = events; signals = signals })

abbrev pub ephemeral_options_for : Scope → Options → Option EphemeralOptions
ephemeral_options_for k options = do
  remote ← optional_at (remote_for k) options.remote
  Some (record { mode = options.mode; remote = remote })

unfoldable pub add_line_for : Scope → Bool → List ℕ → List ℕ → Options → Option Command
add_line_for k create context name options = do
  context ← slot_for k.contexts context
  line ← slot_for k.lines name
  options ← line_options_for k options
  Some (AddLine create context line options)

unfoldable pub add_ephemeral_for : Scope → Bool → List ℕ → List ℕ → Options → Option Command
add_ephemeral_for k create context name options = do
  context ← slot_for k.contexts context
  ephemeral ← slot_for k.ephemerals name
  options ← ephemeral_options_for k options
  Some (AddEphemeral create context ephemeral options)

unfoldable pub modify_line_for : Scope → Option (List ℕ) → List ℕ → Options → Option Command
modify_line_for k place name options = do
  place ← place_for k place
  line ← slot_for k.lines name
  options ← line_options_for k options
  Some (ModifyLine place line options)

unfoldable pub modify_ephemeral_for : Scope → Option (List ℕ) → List ℕ → Options → Option Command
modify_ephemeral_for k place name options = do
  place ← place_for k place
  ephemeral ← slot_for k.ephemerals name
  options ← ephemeral_options_for k options
  Some (ModifyEphemeral place ephemeral options)

unfoldable pub move_line_for : Scope → List ℕ → List ℕ → Options → Option Command
move_line_for k context name options = do
  context ← slot_for k.contexts context
  line ← slot_for k.lines name
  options ← line_options_for k options
  Some (MoveLine context line options)

unfoldable pub move_ephemeral_for : Scope → List ℕ → List ℕ → Options → Option Command
move_ephemeral_for k context name options = do
  context ← slot_for k.contexts context
  ephemeral ← slot_for k.ephemerals name
  options ← ephemeral_options_for k options
  Some (MoveEphemeral context ephemeral options)

unfoldable pub subtract_for : Scope → List ℕ → List ℕ → Option Command
subtract_for k context name = do
  context ← slot_for k.contexts context
  termination ← termination_for k name
  Some (Subtract context termination)

unfoldable pub subtract_all_for : Scope → List ℕ → Option Command
subtract_all_for k context = slot_for k.contexts context >>= λ context. Some (SubtractAll context)

unfoldable pub topology_for : Scope → List ℕ → List ℕ → List ℕ → Topology → Option Command
topology_for k context first second topology = do
  context ← slot_for k.contexts context
  first ← termination_for k first
  second ← termination_for k second
  Some (SetTopology context first second topology)

-- one command of the model for each verb, and for a line and an ephemeral
unfoldable pub command_for : Scope → WrittenCommand → Option Command
command_for k (written.Add create context own name options) =
    if own then add_ephemeral_for k create context name options else add_line_for k create context name options
command_for k (written.Modify place name options) =
    if is_among name k.lines then modify_line_for k place name options else modify_ephemeral_for k place name options
command_for k (written.Move context name options) =
    if is_among name k.lines then move_line_for k context name options else move_ephemeral_for k context name options
command_for k (written.Subtract context name) = subtract_for k context name
command_for k (written.SubtractAll context) = subtract_all_for k context
command_for k (written.SetTopology context first second topology) = topology_for k context first second topology

-- ---- states

unfoldable pub pair_for : Scope → WrittenPair → Option Pair
pair_for k pair = do
  first ← slot_for k.lines pair.first
  second ← slot_for k.lines pair.second
  Some (record { first = first; second = second })

unfoldable pub transition_for : Scope → WrittenTransition → Option Transition
transition_for k t = do
  line ← slot_for k.lines t.line
  target ← number_for k.states t.target
  Some (record { line = line; kind = t.kind; target = target })

unfoldable pub state_for : Scope → document.State → Option State
state_for k s = do
  commands ← each (command_for k) s.commands
  talk ← each (pair_for k) s.talk
  ok ← optional_at (number_for k.states) s.ok
  fault ← optional_at (number_for k.states) s.fault
  timer ← optional_at (number_for k.states) s.timer
  on ← each (transition_for k) s.on
  Some (record { name = s.name; commands = commands; talk = talk; is_end = s.is_end; ok = ok; fault = fault; timer = timer; on = on })

-- ---- lists and maps

unfoldable pub item_for : Scope → WrittenItem → Option (EventItem ℕ)
item_for k (item.OnHook strict) = Some (OnHook strict)
item_for k (item.OffHook strict) = Some (OffHook strict)
item_for k item.Flash = Some Flash
item_for k (item.Digits map) = number_for k.maps map >>= λ place. Some (Digits place)

unfoldable pub events_list_for : Scope → document.Events → Option EventsList
events_list_for k list = each (item_for k) list.items >>= λ items. Some (record { name = list.name; items = items })

abbrev pub signals_list_for : document.Signals → SignalsList
signals_list_for list = record { name = list.name; items = list.items }

-- what was read, or nothing
abbrev pub if_read : {A : Type 0} → Result A MapFault → Option A
if_read (Ok x) = Some x
if_read (Err fault) = None

unfoldable pub named_map_for : WrittenMap → Option NamedMap
named_map_for m = if_read (map_of m.text) >>= λ found. Some (record { name = m.name; map = found })

-- ---- the document

-- the state that has to be named
abbrev pub state_at : Scope → Option (List ℕ) → Option ℕ
state_at k None = None
state_at k (Some name) = number_for k.states name

-- the table of a document, over the names of each kind in the order in which it declares them
unfoldable pub script_in : Scope → document.Document → Option Script
script_in k d = only_if (not (is_too_large d)) (do
  lists ← each (events_list_for k) d.events
  maps ← each named_map_for d.maps
  states ← each (state_for k) d.states
  start ← state_at k d.start
  restart ← state_at k d.restart
  Some (record { lines = d.lines; contexts = d.contexts; ephemerals = d.ephemerals; lists = lists; signals = map signals_list_for d.signals; maps = maps; states = states; start = start; restart = restart }))

abbrev pub script_meant : document.Document → Option Script
script_meant d = script_in (scope_of d) d

-- The faults of a document that are not of its shape. Each is a test of the whole document, apart from the others. A
-- reader should check each test against the table of faults.
use Rattle.std.specs.Prelude.{ℕ, List, [], ◌∷◌, ◌++◌, length, map, Bool, true, false, not, ◌≡◌, ◌&&◌, ◌||◌, nat_lt, is_some, is_none, is_err, codes, if◌then◌else◌, Option, Some, None}
use Rattle.std.specs.List.{list_all, list_any, flat_map}
use Rattle.std.specs.Str.{bytes_eq}
use Rattle.mg_names.specs.Words.{signal_text}
use Rattle.digits.specs.Reading.{map_of}
use Rattle.scriptreader.specs.declared.fault.ScriptFault.{ScriptFault}
use Rattle.scriptreader.specs.declared.fault.ScriptFault.TheVariants as fault
use Rattle.scriptreader.specs.declared.syntax.WrittenItem.{WrittenItem}
use Rattle.scriptreader.specs.declared.syntax.WrittenItem.TheVariants.{OnHook, OffHook, Flash, Digits}
use Rattle.scriptreader.specs.declared.syntax.WrittenMap.{WrittenMap}
use Rattle.scriptreader.specs.declared.syntax.WrittenPair.{WrittenPair}
use Rattle.scriptreader.specs.declared.syntax.WrittenTransition.{WrittenTransition}
use Rattle.scriptreader.specs.declared.syntax.Options.{Options}
use Rattle.scriptreader.specs.declared.syntax.WrittenCommand.{WrittenCommand}
use Rattle.scriptreader.specs.declared.syntax.WrittenCommand.TheVariants.{Add, Modify, Move, Subtract, SubtractAll, SetTopology}
use Rattle.scriptreader.specs.Written.{State, Document}
use Rattle.typed_values.specs.Names.{is_declarable, is_among, each_once}
use Rattle.scriptreader.specs.Texts.{suits_line, suits_ephemeral}
use Rattle.scriptreader.specs.Limits.{is_too_large}
use Rattle.scriptreader.specs.DeclaredNames.{Scope, scope_of, repeats, event_text}

-- ---- BadName: a declared name that may not be declared

unfoldable pub has_bad_name : Document → Bool
has_bad_name d =
    not (list_all (λ name. is_declarable name) d.lines && (list_all (λ name. is_declarable name) d.contexts
    && (list_all (λ name. is_declarable name) d.ephemerals && (list_all (λ e. is_declarable e.name) d.events
    && (list_all (λ s. is_declarable s.name) d.signals && (list_all (λ m. is_declarable m.name) d.maps
    && list_all (λ s. is_declarable s.name) d.states))))))

-- ---- Duplicate

abbrev pub text_if : Bool → List ℕ → List (List ℕ)
text_if b text = if b then text ∷ [] else []

-- the names that a command creates
abbrev pub created_by : WrittenCommand → List (List ℕ)
created_by (Add create context own name options) = text_if create context ++ text_if own name
created_by command = []

-- a topology between a termination and itself
unfoldable pub is_loop : WrittenCommand → Bool
is_loop (SetTopology context first second topology) = bytes_eq first second
is_loop command = false

abbrev pub is_one_line : WrittenPair → Bool
is_one_line pair = bytes_eq pair.first pair.second

unfoldable pub state_repeats : State → Bool
state_repeats s =
    list_any (λ pair. is_one_line pair) s.talk || (list_any (λ command. is_loop command) s.commands || repeats (flat_map created_by s.commands))

-- lines, contexts and ephemerals share one name space; events lists, signals lists, maps and states have their own
unfoldable pub has_duplicate : Document → Bool
has_duplicate d =
    repeats (d.lines ++ (d.contexts ++ d.ephemerals)) || (repeats (map (λ e. e.name) d.events) || (repeats (map (λ s. s.name) d.signals)
    || (repeats (map (λ m. m.name) d.maps) || (repeats (map (λ s. s.name) d.states)
    || (list_any (λ e. repeats (map event_text e.items)) d.events || (list_any (λ s. repeats (map signal_text s.items)) d.signals
    || list_any (λ s. state_repeats s) d.states))))))

-- ---- Unknown: a name that isn't declared as what its place asks for

-- left out, or among the names
abbrev pub is_known : List (List ℕ) → Option (List ℕ) → Bool
is_known names None = true
is_known names (Some name) = is_among name names

-- `none` and `armed` are predefined
abbrev pub is_events_list : Scope → List ℕ → Bool
is_events_list k name = bytes_eq name (codes "none") || (bytes_eq name (codes "armed") || is_among name k.events)

abbrev pub is_signals_list : Scope → List ℕ → Bool
is_signals_list k name = bytes_eq name (codes "none") || is_among name k.signals

abbrev pub is_remote : Scope → List ℕ → Bool
is_remote k name = bytes_eq name (codes "none") || is_among name k.ephemerals

abbrev pub option_passes : (List ℕ → Bool) → Option (List ℕ) → Bool
option_passes test None = true
option_passes test (Some name) = test name

-- options of a line whose names are known, and of an ephemeral termination
abbrev pub line_options_known : Scope → Options → Bool
line_options_known k o = suits_line o && (option_passes (is_events_list k) o.events && option_passes (is_signals_list k) o.signals)

abbrev pub ephemeral_options_known : Scope → Options → Bool
ephemeral_options_known k o = suits_ephemeral o && option_passes (is_remote k) o.remote

abbrev pub termination_known : Scope → List ℕ → Bool
termination_known k name = is_among name k.lines || is_among name k.ephemerals

-- a line with options of a line, or an ephemeral termination with its own
abbrev pub options_known : Scope → List ℕ → Options → Bool
options_known k name o =
    if is_among name k.lines then line_options_known k o
    else if is_among name k.ephemerals then ephemeral_options_known k o
    else false

unfoldable pub command_known : Scope → WrittenCommand → Bool
command_known k (Add create context own name options) =
    is_among context k.contexts
    && (if own then is_among name k.ephemerals && ephemeral_options_known k options else is_among name k.lines && line_options_known k options)
command_known k (Modify place name options) = is_known k.contexts place && options_known k name options
command_known k (Move context name options) = is_among context k.contexts && options_known k name options
command_known k (Subtract context name) = is_among context k.contexts && termination_known k name
command_known k (SubtractAll context) = is_among context k.contexts
command_known k (SetTopology context first second topology) = is_among context k.contexts && (termination_known k first && termination_known k second)

unfoldable pub item_known : Scope → WrittenItem → Bool
item_known k (Digits map) = is_among map k.maps
item_known k item = true

abbrev pub pair_known : Scope → WrittenPair → Bool
pair_known k pair = is_among pair.first k.lines && is_among pair.second k.lines

abbrev pub transition_known : Scope → WrittenTransition → Bool
transition_known k t = is_among t.line k.lines && is_among t.target k.states

unfoldable pub state_known : Scope → State → Bool
state_known k s =
    list_all (λ c. command_known k c) s.commands && (list_all (λ p. pair_known k p) s.talk && (list_all (λ t. transition_known k t) s.on
    && (is_known k.states s.ok && (is_known k.states s.fault && is_known k.states s.timer))))

unfoldable pub has_unknown : Document → Bool
has_unknown d =
    let k = scope_of d in
    not (list_all (λ e. list_all (λ i. item_known k i) e.items) d.events && list_all (λ s. state_known k s) d.states)

-- ---- the later ones

abbrev pub is_bad_map : WrittenMap → Bool
is_bad_map m = is_err (map_of m.text)

unfoldable pub has_bad_map : Document → Bool
has_bad_map d = list_any (λ m. is_bad_map m) d.maps

-- there, and the name of a state
abbrev pub names_state : Document → Option (List ℕ) → Bool
names_state d None = false
names_state d (Some name) = is_among name (map (λ s. s.name) d.states)

abbrev pub has_commands : State → Bool
has_commands s = nat_lt 0 (length s.commands)

abbrev pub lacks_fault : State → Bool
lacks_fault s = has_commands s && is_none s.fault

abbrev pub has_outcome_without_commands : State → Bool
has_outcome_without_commands s = not (has_commands s) && (is_some s.ok || is_some s.fault)

abbrev pub goes_on : State → Bool
goes_on s = has_commands s || (is_some s.ok || (is_some s.fault || (is_some s.timer || nat_lt 0 (length s.on))))

abbrev pub is_end_that_goes_on : State → Bool
is_end_that_goes_on s = s.is_end && goes_on s

-- the contexts and the ephemerals that a command creates
abbrev pub contexts_made : WrittenCommand → List (List ℕ)
contexts_made (Add create context own name options) = text_if create context
contexts_made command = []

abbrev pub ephemerals_made : WrittenCommand → List (List ℕ)
ephemerals_made (Add create context own name options) = text_if own name
ephemerals_made command = []

-- a subtract of one of the ephemerals, or of all of one of the contexts
unfoldable pub subtracts_made : List (List ℕ) → List (List ℕ) → WrittenCommand → Bool
subtracts_made contexts ephemerals (Subtract context name) = is_among name ephemerals
subtracts_made contexts ephemerals (SubtractAll context) = is_among context contexts
subtracts_made contexts ephemerals command = false

unfoldable pub makes_and_subtracts : State → Bool
makes_and_subtracts s =
    list_any (λ c. subtracts_made (each_once [] (flat_map contexts_made s.commands)) (each_once [] (flat_map ephemerals_made s.commands)) c) s.commands

-- the first fault of the states whose test holds
unfoldable pub state_fault_of : Document → Option ScriptFault
state_fault_of d =
    if list_any (λ s. lacks_fault s) d.states then Some fault.NoFault
    else if list_any (λ s. has_outcome_without_commands s) d.states then Some fault.OkWithoutActions
    else if list_any (λ s. is_end_that_goes_on s) d.states then Some fault.EndWithTransitions
    else if list_any (λ s. makes_and_subtracts s) d.states then Some fault.MadeAndSubtracted
    else if is_too_large d then Some fault.TooMany
    else None

-- the first fault of the uses whose test holds, and after those the faults of the states
unfoldable pub use_fault_of : Document → Option ScriptFault
use_fault_of d =
    if has_unknown d then Some fault.Unknown
    else if has_bad_map d then Some fault.BadMap
    else if not (names_state d d.start) then Some fault.NoStart
    else if not (names_state d d.restart) then Some fault.NoRestart
    else state_fault_of d

-- the first fault of the declared names whose test holds
unfoldable pub name_fault_of : Document → Option ScriptFault
name_fault_of d =
    if has_bad_name d then Some fault.BadName
    else if has_duplicate d then Some fault.Duplicate
    else None

-- the first fault whose test holds, in the order of their numbers; the shape of the document comes before all of these
unfoldable pub fault_of : Document → Option ScriptFault
fault_of d =
    if has_bad_name d then Some fault.BadName
    else if has_duplicate d then Some fault.Duplicate
    else use_fault_of d

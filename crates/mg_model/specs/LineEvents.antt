-- What happens on a line: its descriptors are replaced, its user goes off hook or on hook, flashes the hook or dials, a
-- pause ends the dialling, a signal ends. Each gives the row after it and the note that is raised, or cannot happen (H.248.1
-- sections 7.1.9 and 7.1.11 on the Events and Signals descriptors, Annex E.6, E.7 and E.9 on the packages dd, cg and al).
-- A reader should check what stops the signals: an event that the list names does, and so does a symbol that an active
-- digit map keeps; a symbol that is taken back, a pause and a completion by them stop none (this profile's own).
use Rattle.std.specs.Prelude.{ℕ, Bool, true, false, if◌then◌else◌, List, [], ◌∷◌, Option, Some, None, option_map}
use Rattle.std.specs.List.{list_any}
use Rattle.mg_names.specs.declared.kinds.Kind.{Kind}
use Rattle.mg_names.specs.declared.kinds.Kind.TheVariants as kind
use Rattle.mg_names.specs.declared.signals.Signal.{Signal}
use Rattle.mg_names.specs.declared.signals.Signal.TheVariants.{Ring, DialTone, RingingTone, BusyTone, CongestionTone}
use Rattle.mg_names.specs.declared.strictness.Strict.TheVariants.{State}
use Rattle.mg_names.specs.declared.symbols.Symbol.{Symbol}
use Rattle.mg_model.specs.declared.line_events.Hook.{Hook}
use Rattle.mg_model.specs.declared.line_events.Hook.TheVariants.{On, Off}
use Rattle.mg_model.specs.declared.line_events.Method.{Method}
use Rattle.mg_model.specs.declared.line_events.Method.TheVariants.{Unambiguous, Full, Partial}
use Rattle.mg_model.specs.declared.line_events.SignalSet.{SignalSet}
use Rattle.mg_model.specs.declared.transitions.EventItem.{EventItem}
use Rattle.mg_model.specs.declared.transitions.EventItem.TheVariants.{OnHook, OffHook, Flash, Digits}
use Rattle.mg_model.specs.Script.{DigitMap}
use Rattle.mg_model.specs.DigitMaps.{Dialling, collecting, completed, Collected, Completion, with_symbol, with_pause}

-- an item of an Events descriptor, with its digit map
abbrev pub ListItem : Type 0
ListItem = EventItem DigitMap

-- a line: its hook state, its Events descriptor with its RequestID, what is collected for its digit map, and the signals
-- that play. A descriptor that was emptied by the gateway has no RequestID (this profile's own)
pub record LineRow : Type 0 where
  pub hook : Hook
  pub list : List ListItem
  pub request : Option ℕ
  pub digits : Dialling
  pub playing : SignalSet

-- a note: what it reports of the line, the RequestID of the descriptor, and for a completed map how and by which symbols
pub record Note : Type 0 where
  pub kind : Kind
  pub request : ℕ
  pub method : Option Method
  pub symbols : List Symbol

-- the row after, and the note that is raised
pub record Outcome : Type 0 where
  pub row : LineRow
  pub note : Option Note

abbrev pub silent : SignalSet
silent = record { ring = false; dial_tone = false; ringing_tone = false; busy_tone = false; congestion_tone = false }

-- a new line: on hook, silent, with an empty descriptor (this profile's own)
abbrev pub new_line : LineRow
new_line = record { hook = On; list = []; request = None; digits = collecting []; playing = silent }

-- the line after a Subtract or a restart: silent, with an empty descriptor; the hook state stays (this profile's own)
abbrev pub cleared : LineRow → LineRow
cleared row = record new_line { hook = row.hook }

-- ---- what the list names

abbrev pub is_hook : Hook → ListItem → Bool
is_hook On (OnHook strict) = true
is_hook Off (OffHook strict) = true
is_hook hook item = false

-- the item recognises also a hook state that stands when the descriptor is processed
abbrev pub is_standing : Hook → ListItem → Bool
is_standing On (OnHook State) = true
is_standing Off (OffHook State) = true
is_standing hook item = false

abbrev pub is_flash : ListItem → Bool
is_flash Flash = true
is_flash item = false

-- the digit map of a list
abbrev pub map_in : List ListItem → Option DigitMap
map_in [] = None
map_in (Digits map ∷ more) = Some map
map_in (OnHook strict ∷ more) = map_in more
map_in (OffHook strict ∷ more) = map_in more
map_in (Flash ∷ more) = map_in more

abbrev pub kind_of : Hook → Kind
kind_of On = kind.On
kind_of Off = kind.Of

-- ---- events

abbrev pub stays : LineRow → Outcome
stays row = record { row = row; note = None }

-- an event that the list names is detected: its note is raised, and the signals stop
abbrev pub detected : LineRow → Kind → Outcome
detected row what = record {
  row = record row { playing = silent };
  note = option_map (λ request. record { kind = what; request = request; method = None; symbols = [] }) row.request;
}

-- a new Events descriptor: its digit map starts with no symbol, and a hook state that it recognises as it stands is detected
abbrev pub armed : LineRow → List ListItem → ℕ → Outcome
armed row list request =
    let new : LineRow = record row { list = list; request = Some request; digits = collecting [] } in
    if list_any (is_standing row.hook) list then detected new (kind_of row.hook) else stays new

-- a new Signals descriptor leaves playing exactly what it names
abbrev pub signalled : LineRow → SignalSet → Outcome
signalled row set = stays (record row { playing = set })

abbrev pub is_on : Hook → Bool
is_on On = true
is_on Off = false

abbrev pub same_hook : Hook → Hook → Bool
same_hook On hook = is_on hook
same_hook Off On = false
same_hook Off Off = true

-- the hook goes to a state; nothing, where it is in that state
abbrev pub hooked : LineRow → Hook → Option Outcome
hooked row hook =
    if same_hook row.hook hook then None
    else if list_any (is_hook hook) row.list then Some (detected (record row { hook = hook }) (kind_of hook))
    else Some (stays (record row { hook = hook }))

-- the user flashes the hook, being off hook
abbrev pub flashed : LineRow → Option Outcome
flashed row =
    if is_on row.hook then None
    else if list_any is_flash row.list then Some (detected row kind.Fl)
    else Some (stays row)

-- UM and FM are told as `full`, PM as `part` (this profile's own)
abbrev pub kind_by : Method → Kind
kind_by Unambiguous = kind.Full
kind_by Full = kind.Full
kind_by Partial = kind.Part

abbrev pub note_by : Completion → ℕ → Note
note_by completion request =
    record { kind = kind_by completion.method; request = request; method = Some completion.method; symbols = completion.symbols }

abbrev pub note_of : Option ℕ → Option Completion → Option Note
note_of None completion = None
note_of (Some request) completion = option_map (λ c. note_by c request) completion

-- what was collected is kept, and a symbol that was kept stops the signals
abbrev pub taken : LineRow → Collected → Outcome
taken row collected = record {
  row = record row { digits = collected.digits; playing = if collected.kept then silent else row.playing };
  note = note_of row.request collected.completion;
}

abbrev pub dialled_by : LineRow → Option DigitMap → Symbol → Outcome
dialled_by row None s = stays row
dialled_by row (Some map) s = taken row (with_symbol map row.digits s)

-- the user dials a symbol, being off hook
abbrev pub dialled : LineRow → Symbol → Option Outcome
dialled row s = if is_on row.hook then None else Some (dialled_by row (map_in row.list) s)

-- the timer of an active digit map ends
abbrev pub paused_by : LineRow → Option DigitMap → Dialling → Option Outcome
paused_by row None digits = None
paused_by row (Some map) completed = None
paused_by row (Some map) (collecting symbols) = Some (taken row (with_pause map (collecting symbols)))

abbrev pub paused : LineRow → Option Outcome
paused row = paused_by row (map_in row.list) row.digits

abbrev pub plays : SignalSet → Signal → Bool
plays set Ring = set.ring
plays set DialTone = set.dial_tone
plays set RingingTone = set.ringing_tone
plays set BusyTone = set.busy_tone
plays set CongestionTone = set.congestion_tone

abbrev pub without_signal : SignalSet → Signal → SignalSet
without_signal set Ring = record set { ring = false }
without_signal set DialTone = record set { dial_tone = false }
without_signal set RingingTone = record set { ringing_tone = false }
without_signal set BusyTone = record set { busy_tone = false }
without_signal set CongestionTone = record set { congestion_tone = false }

-- a signal that plays ends (this profile's own: at any moment)
abbrev pub signal_ended : LineRow → Signal → Option Outcome
signal_ended row signal =
    if plays row.playing signal then Some (stays (record row { playing = without_signal row.playing signal })) else None

-- The definitions of digit maps and of line events, computed on worked rows.
use Rattle.std.proofs.Common.{◌≡◌, Bool, true, false, List, [], ◌∷◌, Option, Some, None, refl}
use Rattle.mg_names.specs.declared.kinds.Kind.TheVariants as kind
use Rattle.mg_names.specs.declared.signals.Signal.TheVariants.{BusyTone}
use Rattle.mg_names.specs.declared.strictness.Strict.TheVariants.{Exact, State}
use Rattle.mg_names.specs.declared.symbols.Symbol.{Symbol}
use Rattle.mg_names.specs.declared.symbols.Symbol.TheVariants.{One, Two, Three, Four}
use Rattle.mg_model.specs.declared.positions.Position.{Position}
use Rattle.mg_model.specs.declared.line_events.Hook.TheVariants.{Off}
use Rattle.mg_model.specs.declared.line_events.Method.TheVariants.{Unambiguous, Full, Partial}
use Rattle.mg_model.specs.declared.line_events.SignalSet.{SignalSet}
use Rattle.mg_model.specs.Script.{DigitMap}
use Rattle.mg_model.specs.DigitMaps.{Dialling, collecting, completed, Completion, Collected, with_symbol, with_pause}
use Rattle.mg_model.specs.declared.transitions.EventItem.TheVariants as item
use Rattle.mg_model.specs.LineEvents.{ListItem, LineRow, Note, Outcome, new_line, silent, armed, signalled, hooked, flashed, dialled, paused, signal_ended}
use Rattle.mg_examples.specs.Dials.{one}

abbrev two : Position
two = record { accepts = false ∷ false ∷ true ∷ false ∷ false ∷ false ∷ false ∷ false ∷ false ∷ false ∷ false ∷ false ∷ [] }

abbrev three : Position
three = record { accepts = false ∷ false ∷ false ∷ true ∷ false ∷ false ∷ false ∷ false ∷ false ∷ false ∷ false ∷ false ∷ [] }

abbrev any : Position
any = record { accepts = true ∷ true ∷ true ∷ true ∷ true ∷ true ∷ true ∷ true ∷ true ∷ true ∷ false ∷ false ∷ [] }

-- `12|123`, and `1x|x1`
abbrev map : DigitMap
map = (one ∷ two ∷ []) ∷ (one ∷ two ∷ three ∷ []) ∷ []

abbrev other : DigitMap
other = (one ∷ any ∷ []) ∷ (any ∷ one ∷ []) ∷ []

-- what the symbols make, one after the other
abbrev dial : DigitMap → Dialling → List Symbol → Dialling
dial m digits [] = digits
dial m digits (s ∷ more) = dial m (with_symbol m digits s).digits more

abbrev by : Dialling → Option Completion → Bool → Collected
by digits completion kept = record { digits = digits; completion = completion; kept = kept }

-- 1, 2, 4: the last is taken back, and the first alternative was matched
falls_back : with_symbol map (dial map (collecting []) (One ∷ Two ∷ [])) Four
    ≡ by completed (Some (record { method = Full; alternative = Some 0; symbols = One ∷ Two ∷ [] })) false
falls_back = refl

goes_on_twice : dial map (collecting []) (One ∷ Two ∷ []) ≡ collecting (One ∷ Two ∷ [])
goes_on_twice = refl

-- 1, 2, 3: only the second alternative is left, and is matched
is_unambiguous : with_symbol map (dial map (collecting []) (One ∷ Two ∷ [])) Three
    ≡ by completed (Some (record { method = Unambiguous; alternative = Some 1; symbols = One ∷ Two ∷ Three ∷ [] })) true
is_unambiguous = refl

-- a pause at once
nothing_dialled : with_pause map (collecting [])
    ≡ by completed (Some (record { method = Partial; alternative = None; symbols = [] })) false
nothing_dialled = refl

-- a symbol after the map was completed
closed : with_symbol map completed One ≡ by completed None false
closed = refl

-- 1, 1 match both alternatives of the other map; a pause gives the lower one
both_matched : dial other (collecting []) (One ∷ One ∷ []) ≡ collecting (One ∷ One ∷ [])
both_matched = refl

lower_one : with_pause other (collecting (One ∷ One ∷ []))
    ≡ by completed (Some (record { method = Full; alternative = Some 0; symbols = One ∷ One ∷ [] })) false
lower_one = refl

-- ---- a line on hook, armed for off-hook and for the map, on which dial tone plays

abbrev list : List ListItem
list = item.OffHook Exact ∷ item.Digits map ∷ []

abbrev dial_tone : SignalSet
dial_tone = record silent { dial_tone = true }

abbrev start : LineRow
start = record new_line { list = list; request = Some 1; playing = dial_tone }

abbrev off : LineRow
off = record start { hook = Off; playing = silent }

abbrev told : LineRow → Note → Option Outcome
told row note = Some (record { row = row; note = Some note })

abbrev untold : LineRow → Option Outcome
untold row = Some (record { row = row; note = None })

off_hook : hooked start Off ≡ told off (record { kind = kind.Of; request = 1; method = None; symbols = [] })
off_hook = refl

-- a symbol that is kept stops the signals, and raises nothing yet
digit_stops : dialled (signalled off dial_tone).row One ≡ untold (record off { digits = collecting (One ∷ []) })
digit_stops = refl

pause_tells : paused (record off { digits = collecting (One ∷ []) })
    ≡ told (record off { digits = completed }) (record { kind = kind.Part; request = 1; method = Some Partial; symbols = One ∷ [] })
pause_tells = refl

-- a completed map waits for a new descriptor
digit_lost : dialled (record off { digits = completed }) Two ≡ untold (record off { digits = completed })
digit_lost = refl

arms_again : Some (armed (record off { digits = completed }) list 2) ≡ untold (record off { request = Some 2 })
arms_again = refl

dialled_whole : dialled (record off { request = Some 2; digits = collecting (One ∷ Two ∷ []) }) Three
    ≡ told (record off { request = Some 2; digits = completed })
    (record { kind = kind.Full; request = 2; method = Some Unambiguous; symbols = One ∷ Two ∷ Three ∷ [] })
dialled_whole = refl

-- a hook state that stands is recognised as the descriptor is processed, and stops the signals
stands : Some (armed (record off { playing = dial_tone }) (item.OffHook State ∷ []) 3)
    ≡ told (record off { list = item.OffHook State ∷ []; request = Some 3 }) (record { kind = kind.Of; request = 3; method = None; symbols = [] })
stands = refl

off_again : hooked off Off ≡ None
off_again = refl

flash_unlisted : flashed off ≡ untold off
flash_unlisted = refl

flash_on_hook : flashed start ≡ None
flash_on_hook = refl

abbrev busy : SignalSet
busy = record silent { busy_tone = true }

tone_ends : signal_ended (signalled off busy).row BusyTone ≡ untold off
tone_ends = refl

tone_ended : signal_ended off BusyTone ≡ None
tone_ended = refl

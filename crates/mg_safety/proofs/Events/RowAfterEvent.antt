-- The row of a line after something happened on it: its Events descriptor and its RequestID stay, a silent line stays silent, and a note that
-- is raised has the descriptor's RequestID and a kind that the list raises.
use Rattle.mg_safety.proofs.Words.{◌≡◌, ◌∙◌, ℕ, true, List, [], ◌∷◌, Option, Some, None, refl, sym, ap, subst, if◌then◌else◌, option_map, list_any, or_right}
use Rattle.mg_safety.proofs.Words.{Kind, Signal, Ring, Hook, On, Off, DigitMap, LineEvent, outcome_of, OnHook, OffHook, Flash, Digits, ListItem, LineRow, Note}
use Rattle.mg_safety.proofs.Words.{Outcome, silent, is_hook, is_flash, map_in, kind_of, stays, detected, is_on, same_hook, hooked, flashed, kind_by, note_by}
use Rattle.mg_safety.proofs.Words.{note_of, taken, dialled_by, dialled, paused_by, paused, without_signal, signal_ended, any_too, none_is_some, the_some}
use Rattle.mg_safety.proofs.Words.{false_not_true, by_test, SignalSet}
use Rattle.mg_names.specs.declared.kinds.Kind.TheVariants as kind
use Rattle.mg_model.specs.declared.line_events.LineEvent.TheVariants as event
use Rattle.mg_names.specs.declared.symbols.Symbol.{Symbol}
use Rattle.mg_model.specs.declared.line_events.Method.{Method}
use Rattle.mg_model.specs.declared.line_events.Method.TheVariants.{Unambiguous, Full, Partial}
use Rattle.mg_model.specs.DigitMaps.{Dialling, completed, Collected, Completion, with_symbol, with_pause}
use Rattle.mg_model.specs.LineEvents.{plays}
use Rattle.mg_safety.proofs.InvariantWords.{raises_kind, list_raises}

pub record IsRowAfter (row : LineRow) (outcome : Outcome) : Type 0 where
  pub list : outcome.row.list ≡ row.list
  pub request : outcome.row.request ≡ row.request
  pub silence : row.playing ≡ silent → outcome.row.playing ≡ silent
  pub note : (n : Note) → outcome.note ≡ Some n → (row.request ≡ Some n.request) × (list_raises row.list n.kind ≡ true)

-- whatever comes of an event
abbrev Gives : LineRow → Option Outcome → Type 0
Gives row o = (outcome : Outcome) → o ≡ Some outcome → IsRowAfter row outcome

gives : (row : LineRow) (outcome : Outcome) → IsRowAfter row outcome → Gives row (Some outcome)
gives row outcome is other e = subst (IsRowAfter row) (the_some outcome other e) is

gives_none : (row : LineRow) → Gives row None
gives_none row outcome e = absurd (none_is_some outcome e)

-- ---- lists

hook_raises : (h : Hook) (item : ListItem) → is_hook h item ≡ true → raises_kind (kind_of h) item ≡ true
hook_raises On (OnHook strict) e = refl
hook_raises Off (OffHook strict) e = refl
hook_raises h item e = absurd (false_not_true e)

flash_raises : (item : ListItem) → is_flash item ≡ true → raises_kind kind.Fl item ≡ true
flash_raises Flash e = refl
flash_raises item e = absurd (false_not_true e)

map_raises : (list : List ListItem) (map : DigitMap) (method : Method) → map_in list ≡ Some map → list_raises list (kind_by method) ≡ true
map_raises [] map method e = absurd (none_is_some map e)
map_raises (Digits first ∷ more) map Unambiguous e = refl
map_raises (Digits first ∷ more) map Full e = refl
map_raises (Digits first ∷ more) map Partial e = refl
map_raises (item ∷ more) map method e = or_right (raises_kind (kind_by method) item) (list_raises more (kind_by method)) (map_raises more map method e)

-- ---- what each event gives

-- a note by its RequestID and its kind
record IsBy (request : Option ℕ) (what : Kind) (n : Note) : Type 0 where
  request_is : request ≡ Some n.request
  kind_is : what ≡ n.kind

detected_by : (request : Option ℕ) (what : Kind) (n : Note)
    → option_map (λ q. record { kind = what; request = q; method = None; symbols = [] }) request ≡ Some n → IsBy request what n
detected_by None what n e = absurd (none_is_some n e)
detected_by (Some q) what n e =
    let same = the_some (record { kind = what; request = q; method = None; symbols = [] }) n e in
    record { request_is = ap (λ (x : Note). Some x.request) same; kind_is = ap (λ (x : Note). x.kind) same }

stays_so : (row : LineRow) (h : Hook) → IsRowAfter row (stays (record row { hook = h }))
stays_so row h = record { list = refl; request = refl; silence = λ e. e; note = λ n e. absurd (none_is_some n e) }

detected_so : (row : LineRow) (h : Hook) (what : Kind) → list_raises row.list what ≡ true → IsRowAfter row (detected (record row { hook = h }) what)
detected_so row h what raises = record {
  list = refl;
  request = refl;
  silence = λ e. refl;
  note = λ n e. let by = detected_by row.request what n e in (by.request_is, ap (list_raises row.list) (sym by.kind_is) ∙ raises);
}

hooked_gives : (row : LineRow) (h : Hook) → Gives row (hooked row h)
hooked_gives row h =
    let named = Some (detected (record row { hook = h }) (kind_of h)) in
    let unnamed = Some (stays (record row { hook = h })) in
    by_test (Gives row) None (if list_any (is_hook h) row.list then named else unnamed) (same_hook row.hook h) (λ same. gives_none row)
    (λ other. by_test (Gives row) named unnamed (list_any (is_hook h) row.list)
    (λ e. gives row (detected (record row { hook = h }) (kind_of h))
    (detected_so row h (kind_of h) (any_too (is_hook h) (raises_kind (kind_of h)) (hook_raises h) row.list e)))
    (λ e. gives row (stays (record row { hook = h })) (stays_so row h)))

flashed_gives : (row : LineRow) → Gives row (flashed row)
flashed_gives row =
    let named = Some (detected row kind.Fl) in
    by_test (Gives row) None (if list_any is_flash row.list then named else Some (stays row)) (is_on row.hook) (λ on. gives_none row)
    (λ off. by_test (Gives row) named (Some (stays row)) (list_any is_flash row.list)
    (λ e. gives row (detected row kind.Fl) (detected_so row row.hook kind.Fl (any_too is_flash (raises_kind kind.Fl) flash_raises row.list e)))
    (λ e. gives row (stays row) (stays_so row row.hook)))

-- a digit map that is completed is one of the list
completed_by : (row : LineRow) (map : DigitMap) (request : Option ℕ) (completion : Option Completion) → map_in row.list ≡ Some map → (n : Note)
    → note_of request completion ≡ Some n → (request ≡ Some n.request) × (list_raises row.list n.kind ≡ true)
completed_by row map None completion listed n e = absurd (none_is_some n e)
completed_by row map (Some q) None listed n e = absurd (none_is_some n e)
completed_by row map (Some q) (Some c) listed n e =
    let same = the_some (note_by c q) n e in
    (ap (λ (x : Note). Some x.request) same, ap (λ (x : Note). list_raises row.list x.kind) (sym same) ∙ map_raises row.list map c.method listed)

taken_so : (row : LineRow) (map : DigitMap) (collected : Collected) → map_in row.list ≡ Some map → IsRowAfter row (taken row collected)
taken_so row map collected listed = record {
  list = refl;
  request = refl;
  silence = λ e. by_test (λ (playing : SignalSet). playing ≡ silent) silent row.playing collected.kept (λ kept. refl) (λ left. e);
  note = completed_by row map row.request collected.completion listed;
}

dialled_gives : (row : LineRow) (s : Symbol) → Gives row (dialled row s)
dialled_gives row s = by_test (Gives row) None (Some (dialled_by row (map_in row.list) s)) (is_on row.hook) (λ on. gives_none row)
    (λ off. gives row (dialled_by row (map_in row.list) s) (by_map (map_in row.list) refl))
  where
    by_map : (map : Option DigitMap) → map_in row.list ≡ map → IsRowAfter row (dialled_by row map s)
    by_map None e = stays_so row row.hook
    by_map (Some map) e = taken_so row map (with_symbol map row.digits s) e

paused_gives : (row : LineRow) → Gives row (paused row)
paused_gives row = by_map (map_in row.list) refl row.digits
  where
    by_map : (map : Option DigitMap) → map_in row.list ≡ map → (digits : Dialling) → Gives row (paused_by row map digits)
    by_map None e digits = gives_none row
    by_map (Some map) e completed = gives_none row
    by_map (Some map) e digits = gives row (taken row (with_pause map digits)) (taken_so row map (with_pause map digits) e)

silent_still : (signal : Signal) → without_signal silent signal ≡ silent
silent_still Ring = refl
silent_still signal = refl

ended_gives : (row : LineRow) (signal : Signal) → Gives row (signal_ended row signal)
ended_gives row signal =
    let ended = stays (record row { playing = without_signal row.playing signal }) in
    by_test (Gives row) (Some ended) None (plays row.playing signal) (λ played. gives row ended (record {
      list = refl;
      request = refl;
      silence = λ e. ap (λ set. without_signal set signal) e ∙ silent_still signal;
      note = λ n e. absurd (none_is_some n e);
    })) (λ not_played. gives_none row)

pub row_after : (row : LineRow) (event : LineEvent) (outcome : Outcome) → outcome_of row event ≡ Some outcome → IsRowAfter row outcome
row_after row (event.Hook h) = hooked_gives row h
row_after row event.Flash = flashed_gives row
row_after row (event.Digit s) = dialled_gives row s
row_after row event.Pause = paused_gives row
row_after row (event.SignalEnd s) = ended_gives row s

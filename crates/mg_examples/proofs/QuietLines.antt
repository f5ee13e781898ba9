-- Lines that tell of no number: the list has no digit map, or its map is completed. Whatever happens on such a line, it stays so, and the note that is raised,
-- if there is one, tells of something else.
use Rattle.std.proofs.Common.{◌≡◌, ℕ, false, [], Option, Some, None, refl, sym, subst, inl, inr}
use Rattle.std.specs.List.{list_any}
use Rattle.std.specs.Prelude.{◌⊎◌, if◌then◌else◌, option_map}
use Rattle.mg_names.specs.declared.kinds.Kind.{Kind}
use Rattle.mg_names.specs.declared.kinds.Kind.TheVariants as kind
use Rattle.mg_names.specs.declared.symbols.Symbol.{Symbol}
use Rattle.mg_model.specs.declared.line_events.Hook.{Hook}
use Rattle.mg_model.specs.declared.line_events.Hook.TheVariants.{On, Off}
use Rattle.mg_model.specs.declared.line_events.LineEvent.{LineEvent}
use Rattle.mg_model.specs.declared.line_events.LineEvent.TheVariants as event
use Rattle.mg_model.specs.DigitMaps.{Dialling, completed, with_symbol}
use Rattle.mg_model.specs.Gateway.{outcome_of}
use Rattle.mg_model.specs.LineEvents.{LineRow, Note, Outcome, detected, dialled_by, is_flash, is_hook, is_on, kind_of, map_in, note_of, paused_by, plays}
use Rattle.mg_model.specs.LineEvents.{same_hook, stays, taken, without_signal}
use Rattle.mg_model.specs.Script.{DigitMap}
use Rattle.mg_model.specs.Tables.{same_kind}
use Rattle.mg_model.proofs.Cases.{by_test}

abbrev pub IsQuiet : LineRow → Type 0
IsQuiet row = (map_in row.list ≡ None) ⊎ (row.digits ≡ completed)

-- a kind of note other than that of a number
abbrev pub IsOther : Kind → Type 0
IsOther what = same_kind kind.Full what ≡ false

abbrev pub TellsOther : Option Note → Type 0
TellsOther None = Unit {0}
TellsOther (Some note) = IsOther note.kind

abbrev pub StaysQuiet : Outcome → Type 0
StaysQuiet outcome = IsQuiet outcome.row × TellsOther outcome.note

-- what can't happen says nothing
abbrev IfHappens : Option Outcome → Type 0
IfHappens None = Unit {0}
IfHappens (Some outcome) = StaysQuiet outcome

-- ---- what the list names

told_of : (request : Option ℕ) (what : Kind) → IsOther what
    → TellsOther (option_map (λ (r : ℕ). record { kind = what; request = r; method = None; symbols = [] }) request)
told_of None what other = tt
told_of (Some r) what other = other

detected_so : (row : LineRow) (what : Kind) → IsQuiet row → IsOther what → StaysQuiet (detected row what)
detected_so row what quiet other = (quiet, told_of row.request what other)

hook_other : (hook : Hook) → IsOther (kind_of hook)
hook_other On = refl
hook_other Off = refl

hooked_so : (row : LineRow) (hook : Hook) → IsQuiet row → IfHappens (outcome_of row (event.Hook hook))
hooked_so row hook quiet =
    by_test IfHappens None (if list_any (is_hook hook) row.list then Some named else Some unnamed) (same_hook row.hook hook) (λ e. tt)
    (λ e. by_test IfHappens (Some named) (Some unnamed) (list_any (is_hook hook) row.list)
    (λ n. detected_so (record row { hook = hook }) (kind_of hook) quiet (hook_other hook)) (λ n. (quiet, tt)))
  where
    named : Outcome
    named = detected (record row { hook = hook }) (kind_of hook)

    unnamed : Outcome
    unnamed = stays (record row { hook = hook })

flashed_so : (row : LineRow) → IsQuiet row → IfHappens (outcome_of row event.Flash)
flashed_so row quiet =
    by_test IfHappens None (if list_any is_flash row.list then Some (detected row kind.Fl) else Some (stays row)) (is_on row.hook) (λ e. tt)
    (λ e. by_test IfHappens (Some (detected row kind.Fl)) (Some (stays row)) (list_any is_flash row.list)
    (λ n. detected_so row kind.Fl quiet refl) (λ n. (quiet, tt)))

-- ---- digits

nothing_told : (request : Option ℕ) → TellsOther (note_of request None)
nothing_told None = tt
nothing_told (Some r) = tt

-- a map that is completed takes no symbol
dialled_so : (row : LineRow) (s : Symbol) → IsQuiet row → StaysQuiet (dialled_by row (map_in row.list) s)
dialled_so row s (inl none) = subst (λ (m : Option DigitMap). StaysQuiet (dialled_by row m s)) (sym none) (inl none, tt)
dialled_so row s (inr done) = by_map (map_in row.list)
  where
    by_map : (map : Option DigitMap) → StaysQuiet (dialled_by row map s)
    by_map None = (inr done, tt)
    by_map (Some map) = subst (λ (d : Dialling). StaysQuiet (taken row (with_symbol map d s))) (sym done) (inr refl, nothing_told row.request)

-- and no pause ends it
paused_so : (row : LineRow) → IsQuiet row → IfHappens (outcome_of row event.Pause)
paused_so row (inl none) = subst (λ (m : Option DigitMap). IfHappens (paused_by row m row.digits)) (sym none) tt
paused_so row (inr done) = subst (λ (d : Dialling). IfHappens (paused_by row (map_in row.list) d)) (sym done) (by_map (map_in row.list))
  where
    by_map : (map : Option DigitMap) → IfHappens (paused_by row map completed)
    by_map None = tt
    by_map (Some map) = tt

-- ---- whatever happens

each_so : (row : LineRow) (happens : LineEvent) → IsQuiet row → IfHappens (outcome_of row happens)
each_so row (event.Hook hook) quiet = hooked_so row hook quiet
each_so row event.Flash quiet = flashed_so row quiet
each_so row (event.Digit s) quiet =
    by_test IfHappens None (Some (dialled_by row (map_in row.list) s)) (is_on row.hook) (λ e. tt) (λ e. dialled_so row s quiet)
each_so row event.Pause quiet = paused_so row quiet
each_so row (event.SignalEnd signal) quiet =
    by_test IfHappens (Some (stays (record row { playing = without_signal row.playing signal }))) None (plays row.playing signal) (λ e. (quiet, tt)) (λ e. tt)

pub stays_quiet : (row : LineRow) (happens : LineEvent) (outcome : Outcome) → IsQuiet row → outcome_of row happens ≡ Some outcome → StaysQuiet outcome
stays_quiet row happens outcome quiet e = subst IfHappens e (each_so row happens quiet)

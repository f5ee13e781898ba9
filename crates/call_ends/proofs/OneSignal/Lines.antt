-- Lines go on alike where one signal alone is told: what happens on a line leaves of it what it leaves where one signal alone plays; and the end of another
-- signal changes nothing of that, and raises no note.
use Rattle.std.proofs.Common.{Bool, List, None, Option, Some, [], ap, false, if◌then◌else◌, inl, inr, refl, sym, true, ℕ, ◌∙◌, ◌≡◌, ◌⊎◌}
use Rattle.std.specs.List.{list_any}
use Rattle.std.specs.Prelude.{option_map}
use Rattle.mg_names.specs.declared.kinds.Kind.{Kind}
use Rattle.mg_names.specs.declared.kinds.Kind.TheVariants as kind
use Rattle.mg_names.specs.declared.signals.Signal.{Signal}
use Rattle.mg_names.specs.declared.symbols.Symbol.{Symbol}
use Rattle.mg_model.specs.declared.line_events.Hook.{Hook}
use Rattle.mg_model.specs.declared.line_events.LineEvent.{LineEvent}
use Rattle.mg_model.specs.declared.line_events.LineEvent.TheVariants as line
use Rattle.mg_model.specs.declared.line_events.SignalSet.{SignalSet}
use Rattle.mg_model.specs.DigitMaps.{Collected, Dialling, collecting, completed, with_pause, with_symbol}
use Rattle.mg_model.specs.Gateway.{outcome_of}
use Rattle.mg_model.specs.LineEvents.{LineRow, ListItem, Outcome, cleared, detected, dialled, dialled_by, flashed, hooked, is_flash, is_hook, is_on}
use Rattle.mg_model.specs.LineEvents.{is_standing, kind_of, map_in, paused_by, plays, same_hook, signal_ended, silent, stays, taken, without_signal}
use Rattle.mg_model.specs.Messages.{Descriptors}
use Rattle.mg_model.specs.RequestRun.{with_descriptors, with_events, with_signals}
use Rattle.mg_model.specs.Script.{DigitMap}
use Rattle.mg_model.proofs.Cases.{none_is_some, the_some}
use Rattle.call_ends.proofs.OneSignal.Messages.{descriptors_alone}
use Rattle.call_ends.proofs.OneSignal.Sets.{alone, alone_silent, ended_alone}

-- ---- lines

abbrev pub row_alone : Signal → LineRow → LineRow
row_alone g row = record row { playing = alone g row.playing }

abbrev pub outcome_alone : Signal → Outcome → Outcome
outcome_alone g outcome = record outcome { row = row_alone g outcome.row }

-- a line with a new Events descriptor, with its hook turned, and without a signal that has ended
abbrev rearmed : LineRow → List ListItem → ℕ → LineRow
rearmed row list number = record row { list = list; request = Some number; digits = collecting [] }

abbrev turned : LineRow → Hook → LineRow
turned row hook = record row { hook = hook }

abbrev quieter : LineRow → Signal → Outcome
quieter row s = stays (record row { playing = without_signal row.playing s })

module _ (g : Signal) where
  pub cleared_alone : (row : LineRow) → cleared row ≡ row_alone g (cleared row)
  cleared_alone row = ap (λ (set : SignalSet). record (cleared row) { playing = set }) (sym (alone_silent g))

  detected_alone : (row : LineRow) (what : Kind) → detected (row_alone g row) what ≡ outcome_alone g (detected row what)
  detected_alone row what = ap (λ (set : SignalSet). record (detected row what) { row = record row { playing = set } }) (sym (alone_silent g))

  -- ---- descriptors

  with_signals_alone : (row : LineRow) (o : Option SignalSet) → with_signals (row_alone g row) (option_map (alone g) o) ≡ row_alone g (with_signals row o)
  with_signals_alone row None = refl
  with_signals_alone row (Some set) = refl

  with_events_alone : (row : LineRow) (o : Option (List ListItem)) (number : ℕ)
      → with_events (row_alone g row) o number ≡ outcome_alone g (with_events row o number)
  with_events_alone row None number = refl
  with_events_alone row (Some list) number = by (list_any (is_standing row.hook) list)
    where
      by : (b : Bool) → (if b then detected (rearmed (row_alone g row) list number) (kind_of row.hook) else stays (rearmed (row_alone g row) list number))
          ≡ outcome_alone g (if b then detected (rearmed row list number) (kind_of row.hook) else stays (rearmed row list number))
      by true = detected_alone (rearmed row list number) (kind_of row.hook)
      by false = refl

  pub described_alone : (row : LineRow) (d : Descriptors) (number : ℕ)
      → with_descriptors (row_alone g row) (descriptors_alone g d) number ≡ outcome_alone g (with_descriptors row d number)
  described_alone row d number =
      ap (λ (r : LineRow). with_events r d.events number) (with_signals_alone row d.signals) ∙ with_events_alone (with_signals row d.signals) d.events number

  -- ---- what users do

  hooked_alone : (row : LineRow) (hook : Hook) → hooked (row_alone g row) hook ≡ option_map (outcome_alone g) (hooked row hook)
  hooked_alone row hook = by (same_hook row.hook hook) (list_any (is_hook hook) row.list)
    where
      by : (b c : Bool)
          → (if b then None else if c then Some (detected (turned (row_alone g row) hook) (kind_of hook)) else Some (stays (turned (row_alone g row) hook)))
          ≡ option_map (outcome_alone g) (if b then None else if c then Some (detected (turned row hook) (kind_of hook)) else Some (stays (turned row hook)))
      by true c = refl
      by false true = ap Some (detected_alone (turned row hook) (kind_of hook))
      by false false = refl

  flashed_alone : (row : LineRow) → flashed (row_alone g row) ≡ option_map (outcome_alone g) (flashed row)
  flashed_alone row = by (is_on row.hook) (list_any is_flash row.list)
    where
      by : (b c : Bool)
          → (if b then None else if c then Some (detected (row_alone g row) kind.Fl) else Some (stays (row_alone g row)))
          ≡ option_map (outcome_alone g) (if b then None else if c then Some (detected row kind.Fl) else Some (stays row))
      by true c = refl
      by false true = ap Some (detected_alone row kind.Fl)
      by false false = refl

  taken_alone : (row : LineRow) (collected : Collected) → taken (row_alone g row) collected ≡ outcome_alone g (taken row collected)
  taken_alone row collected =
      ap (λ (set : SignalSet). record (taken row collected) { row = record row { digits = collected.digits; playing = set } })
      (by collected.kept)
    where
      by : (b : Bool) → (if b then silent else alone g row.playing) ≡ alone g (if b then silent else row.playing)
      by true = sym (alone_silent g)
      by false = refl

  dialled_by_alone : (row : LineRow) (o : Option DigitMap) (s : Symbol) → dialled_by (row_alone g row) o s ≡ outcome_alone g (dialled_by row o s)
  dialled_by_alone row None s = refl
  dialled_by_alone row (Some map) s = taken_alone row (with_symbol map row.digits s)

  dialled_alone : (row : LineRow) (s : Symbol) → dialled (row_alone g row) s ≡ option_map (outcome_alone g) (dialled row s)
  dialled_alone row s = by (is_on row.hook)
    where
      by : (b : Bool) → (if b then None else Some (dialled_by (row_alone g row) (map_in row.list) s))
          ≡ option_map (outcome_alone g) (if b then None else Some (dialled_by row (map_in row.list) s))
      by true = refl
      by false = ap Some (dialled_by_alone row (map_in row.list) s)

  paused_alone : (row : LineRow) (o : Option DigitMap) (digits : Dialling)
      → paused_by (row_alone g row) o digits ≡ option_map (outcome_alone g) (paused_by row o digits)
  paused_alone row None digits = refl
  paused_alone row (Some map) completed = refl
  paused_alone row (Some map) (collecting symbols) = ap Some (taken_alone row (with_pause map (collecting symbols)))

  -- ---- signals that end

  -- where it is another one, there is no such event in what is left
  ended : (row : LineRow) (s : Signal) (outcome : Outcome) → signal_ended row s ≡ Some outcome
      → (signal_ended (row_alone g row) s ≡ Some (outcome_alone g outcome)) ⊎ ((outcome.note ≡ None) × (row_alone g outcome.row ≡ row_alone g row))
  ended row s outcome ends = by (ended_alone g s row.playing) (plays row.playing s) refl
    where
      it_is : (b : Bool) → plays row.playing s ≡ b → (b ≡ true) × (quieter row s ≡ outcome)
      it_is true e = (refl, the_some (quieter row s) outcome (sym (ap (λ t. if t then Some (quieter row s) else None) e) ∙ ends))
      it_is false e = absurd (none_is_some outcome (sym (ap (λ t. if t then Some (quieter row s) else None) e) ∙ ends))

      by : ((plays (alone g row.playing) s ≡ plays row.playing s) × (without_signal (alone g row.playing) s ≡ alone g (without_signal row.playing s)))
          ⊎ (alone g (without_signal row.playing s) ≡ alone g row.playing)
          → (b : Bool) → plays row.playing s ≡ b
          → (signal_ended (row_alone g row) s ≡ Some (outcome_alone g outcome)) ⊎ ((outcome.note ≡ None) × (row_alone g outcome.row ≡ row_alone g row))
      by (inl (same, left)) b e =
          let its = it_is b e in
          inl (ap (λ t. if t then Some (stays (record row { playing = without_signal (alone g row.playing) s })) else None) (same ∙ e ∙ its.0)
          ∙ ap (λ (set : SignalSet). Some (stays (record row { playing = set }))) left
          ∙ ap (λ (o : Outcome). Some (outcome_alone g o)) its.1)
      by (inr left) b e =
          let its = it_is b e in
          inr (
            sym (ap (λ (o : Outcome). o.note) its.1),
            sym (ap (λ (o : Outcome). row_alone g o.row) its.1) ∙ ap (λ (set : SignalSet). record row { playing = set }) left,
          )

  -- ---- all that happens on a line

  pub happens_alone : (row : LineRow) (event : LineEvent) (outcome : Outcome) → outcome_of row event ≡ Some outcome
      → (outcome_of (row_alone g row) event ≡ Some (outcome_alone g outcome)) ⊎ ((outcome.note ≡ None) × (row_alone g outcome.row ≡ row_alone g row))
  happens_alone row (line.Hook hook) outcome is = inl (hooked_alone row hook ∙ ap (option_map (outcome_alone g)) is)
  happens_alone row line.Flash outcome is = inl (flashed_alone row ∙ ap (option_map (outcome_alone g)) is)
  happens_alone row (line.Digit s) outcome is = inl (dialled_alone row s ∙ ap (option_map (outcome_alone g)) is)
  happens_alone row line.Pause outcome is = inl (paused_alone row (map_in row.list) row.digits ∙ ap (option_map (outcome_alone g)) is)
  happens_alone row (line.SignalEnd s) outcome is = ended row s outcome is

-- What a request does to each line, and its notes: a line is armed, emptied or left by each command, the lines of others stay, and each note
-- that is to be sent is of a line of the call, has the request's number, and is one that the line's list can raise if its descriptor stands.
use Rattle.mg_safety.proofs.Words.{◌≡◌, ◌∙◌, ◌<◌, ℕ, Bool, true, false, List, [], ◌∷◌, ◌++◌, length, Option, Some, None, is_some, refl, sym, ap, subst}
use Rattle.mg_safety.proofs.Words.{true≢false, inl, inr, eqb-true, eq-eqb, false_from_ne_true, Contains-append_cases, Contains-append_left}
use Rattle.mg_safety.proofs.Words.{Contains-append_right, ◌==◌, ◌&&◌, ◌||◌, not, if◌then◌else◌, unwrap_or, Contains, filter, list_any, Command, AddLine}
use Rattle.mg_safety.proofs.Words.{ModifyLine, MoveLine, Item, Hook, On, Off, SignalSet, Agent, Made, command_of, Board, Configuration, Done, subtracts, OnHook}
use Rattle.mg_safety.proofs.Words.{OffHook, ListItem, LineRow, Note, Outcome, armed, cleared, is_standing, kind_of, RequestCommand, LineDescriptors, RaisedNote}
use Rattle.mg_safety.proofs.Words.{Running, note_on, with_signals, with_events, with_descriptors, descriptors_for, described_row, line_after, is_line}
use Rattle.mg_safety.proofs.Words.{has_new_events, note_from, raised, standing, Script, IsCommandOf, any_too, only_one, by_test, false_not_true, none_in}
use Rattle.mg_safety.proofs.Words.{none_is_some, not_both}
use Rattle.mg_names.specs.declared.identifiers.TermId.TheVariants as term
use Rattle.mg_safety.proofs.InvariantWords.{naming, naming_at, Shown, Owner, owned_at, AreBuilt, raises_kind, list_raises, LineGoes}
use Rattle.mg_safety.proofs.Requests.RunLines.{armed_list, armed_request, set_list, set_request}

-- ---- each line

-- descriptors without Events leave list and RequestID
kept_by_descriptors : (row : LineRow) (signals : Option SignalSet) (events : Option (List ListItem)) (number : ℕ) → is_some events ≡ false
    → ((with_events (with_signals row signals) events number).row.list ≡ row.list)
    × ((with_events (with_signals row signals) events number).row.request ≡ row.request)
kept_by_descriptors row signals None number e = (set_list row signals, set_request row signals)
kept_by_descriptors row signals (Some list) number e = absurd (true≢false e)

goes_by_descriptors : (row : LineRow) (signals : Option SignalSet) (events : Option (List ListItem)) (number : ℕ)
    → LineGoes number row (with_events (with_signals row signals) events number).row
goes_by_descriptors row signals None number = inr (inr (set_list row signals, set_request row signals))
goes_by_descriptors row signals (Some list) number = inl (armed_request (with_signals row signals) list number)

goes_described : (row : LineRow) (d : Option LineDescriptors) (l number : ℕ) → LineGoes number row (described_row d row l number)
goes_described row None l number = inr (inr (refl, refl))
goes_described row (Some on) l number = by_test (LineGoes number row) (with_descriptors row on.descriptors number).row row (on.line == l)
    (λ e. goes_by_descriptors row on.descriptors.signals on.descriptors.events number) (λ e. inr (inr (refl, refl)))

pub line_goes : (r : Running) (command : RequestCommand) (item : Item) (number l : ℕ) → LineGoes number (r.line l) (line_after r command item number l)
line_goes r command item number l = by_test (LineGoes number (r.line l)) (cleared (r.line l)) (described_row (descriptors_for command) (r.line l) l number)
    (subtracts r.board item (term.Line (record { 0 = l }))) (λ e. inr (inl refl)) (λ e. goes_described (r.line l) (descriptors_for command) l number)

pub goes_on : (number : ℕ) (row mid after : LineRow) → LineGoes number row mid → LineGoes number mid after → LineGoes number row after
goes_on number row mid after first (inl e) = inl e
goes_on number row mid after first (inr (inl e)) = inr (inl e)
goes_on number row mid after (inl e) (inr (inr kept)) = inl (kept.1 ∙ e)
goes_on number row mid after (inr (inl e)) (inr (inr kept)) = inr (inl (kept.1 ∙ e))
goes_on number row mid after (inr (inr was)) (inr (inr kept)) = inr (inr (kept.0 ∙ was.0, kept.1 ∙ was.1))

-- ---- the lines of others

-- a command describes a line of the call
module _ (script : Script) (own : Owner) (e a : Agent) (made : Made) (results : List Done) (b : Board) (c : Configuration)
    (shown : Shown script (owned_at own b) (naming e) b c) (built : AreBuilt (naming e) (naming_at a made results) b) where
  line_held : (x l : ℕ) → x < length script.lines → (a.lines x == l) ≡ true → own.held l ≡ true
  line_held x l inside same =
      ap own.held (sym (eqb-true (a.lines x) l same) ∙ ap (λ (lines : ℕ → ℕ). lines x) built.lines) ∙ shown.line_owned x inside

  pub described_held : (command : Command) → IsCommandOf script command → (l : ℕ) → is_line (descriptors_for (command_of script a made command)) l ≡ true
      → own.held l ≡ true
  described_held (AddLine create j x o) declared l same = line_held x l declared.1 same
  described_held (ModifyLine place x o) declared l same = line_held x l declared.1 same
  described_held (MoveLine j x o) declared l same = line_held x l declared.1 same
  described_held command declared l same = absurd (false_not_true same)

undescribed : (d : Option LineDescriptors) (row : LineRow) (l number : ℕ) → is_line d l ≡ false → described_row d row l number ≡ row
undescribed None row l number e = refl
undescribed (Some on) row l number e = rw e refl

pub other_line : (held : ℕ → Bool) (r : Running) (command : RequestCommand) (item : Item) (number : ℕ)
    → ((l : ℕ) → subtracts r.board item (term.Line (record { 0 = l })) ≡ true → held l ≡ true)
    → ((l : ℕ) → is_line (descriptors_for command) l ≡ true → held l ≡ true)
    → (l : ℕ) → held l ≡ false → line_after r command item number l ≡ r.line l
other_line held r command item number leaving describing l other =
    by_test (λ (row : LineRow). row ≡ r.line l) (cleared (r.line l)) (described_row (descriptors_for command) (r.line l) l number)
    (subtracts r.board item (term.Line (record { 0 = l }))) (λ e. absurd (true≢false (sym (leaving l e) ∙ other)))
    (λ e. undescribed (descriptors_for command) (r.line l) l number
    (false_from_ne_true (is_line (descriptors_for command) l) (λ is. not_both (describing l is) other)))

-- ---- the notes

-- a note is one that a line with this row may send: its list raises it if its descriptor is of this request
abbrev pub IsRaised : ℕ → LineRow → Note → Type 0
IsRaised number row note = (note.request ≡ number) × (row.request ≡ Some number → list_raises row.list note.kind ≡ true)

-- each note that is to be sent
abbrev pub AreNotes : (ℕ → Bool) → ℕ → (ℕ → LineRow) → List RaisedNote → Type 0
AreNotes held number line notes = (l : ℕ) (note : Note) → Contains notes (note_on l note) → (held l ≡ true) × IsRaised number (line l) note

pub no_notes : {P : Type 0} (l : ℕ) (note : Note) → Contains {X = RaisedNote} [] (note_on l note) → P
no_notes l note among = absurd (none_in (note_on l note) among)

standing_raises : (hook : Hook) (item : ListItem) → is_standing hook item ≡ true → raises_kind (kind_of hook) item ≡ true
standing_raises On (OnHook strict) e = refl
standing_raises Off (OffHook strict) e = refl
standing_raises hook item e = absurd (false_not_true e)

-- a note of a new descriptor
armed_note : (row : LineRow) (list : List ListItem) (number : ℕ) (note : Note) → (armed row list number).note ≡ Some note
    → (note.request ≡ number) × (list_raises list note.kind ≡ true)
armed_note row list number note = by_test (λ (o : Outcome). o.note ≡ Some note → (note.request ≡ number) × (list_raises list note.kind ≡ true)) _ _
    (list_any (is_standing row.hook) list)
    (λ stands e. let is = ap (λ (o : Option Note). unwrap_or o note) e in (
      sym (ap (λ (n : Note). n.request) is),
      subst (λ (n : Note). list_raises list n.kind ≡ true) is
          (any_too (is_standing row.hook) (raises_kind (kind_of row.hook)) (standing_raises row.hook) list stands),
    ))
    (λ none e. absurd (none_is_some note e))

descriptors_note : (row : LineRow) (signals : Option SignalSet) (events : Option (List ListItem)) (number : ℕ) (note : Note)
    → (with_events (with_signals row signals) events number).note ≡ Some note → IsRaised number (with_events (with_signals row signals) events number).row note
descriptors_note row signals None number note e = absurd (true≢false (sym (ap is_some e)))
descriptors_note row signals (Some list) number note e =
    let is = armed_note (with_signals row signals) list number note e in
    (is.0, λ armed. ap (λ (items : List ListItem). list_raises items note.kind) (armed_list (with_signals row signals) list number) ∙ is.1)

-- what a filter keeps
kept_by : (test : RaisedNote → Bool) (notes : List RaisedNote) (n : RaisedNote) → Contains (filter test notes) n → Contains notes n × (test n ≡ true)
kept_by test [] n = λ among. absurd (none_in n among)
kept_by test (x ∷ notes) n = by_test (λ (kept : List RaisedNote). Contains kept n → Contains (x ∷ notes) n × (test n ≡ true))
    (x ∷ filter test notes) (filter test notes) (test x)
    (λ passes among. elim (Contains-append_cases (x ∷ []) (filter test notes) n among) [
      | inl first ↦ (Contains-append_left (x ∷ []) notes n first, ap test (sym (only_one x n first)) ∙ passes)
      | inr later ↦ let rest = kept_by test notes n later in (Contains-append_right (x ∷ []) notes n rest.0, rest.1)
    ])
    (λ fails among. let rest = kept_by test notes n among in (Contains-append_right (x ∷ []) notes n rest.0, rest.1))

-- the notes whose descriptor still stands
kept_rows : (d : Option LineDescriptors) (row : LineRow) (l number : ℕ) → has_new_events d l ≡ false
    → ((described_row d row l number).list ≡ row.list) × ((described_row d row l number).request ≡ row.request)
kept_rows None row l number e = (refl, refl)
kept_rows (Some on) row l number e = at_line (on.line == l) e
  where
    at_line : (same : Bool) → (same && is_some on.descriptors.events) ≡ false
        → ((if same then (with_descriptors row on.descriptors number).row else row).list ≡ row.list)
        × ((if same then (with_descriptors row on.descriptors number).row else row).request ≡ row.request)
    at_line true none = kept_by_descriptors row on.descriptors.signals on.descriptors.events number none
    at_line false none = (refl, refl)

neither : (x y : Bool) → not (x || y) ≡ true → (x ≡ false) × (y ≡ false)
neither false false e = (refl, refl)
neither x y e = absurd (false_not_true e)

still_raised : (number : ℕ) (row after : LineRow) (note : Note) → (after.list ≡ row.list) × (after.request ≡ row.request)
    → IsRaised number row note → IsRaised number after note
still_raised number row after note kept is =
    (is.0, λ armed. ap (λ (items : List ListItem). list_raises items note.kind) kept.0 ∙ is.1 (sym kept.1 ∙ armed))

new_note : (line : ℕ) (o : Option Note) (l : ℕ) (note : Note) → Contains (note_from line o) (note_on l note) → (line ≡ l) × (o ≡ Some note)
new_note line None l note among = no_notes l note among
new_note line (Some one) l note among =
    let is : (note_on line one) ≡ (note_on l note) = only_one (note_on line one) (note_on l note) among in
    (ap (λ (n : RaisedNote). n.line) is, ap (λ (n : RaisedNote). Some n.note) is)

module _ (held : ℕ → Bool) (r : Running) (command : RequestCommand) (item : Item) (number : ℕ) where
  -- a line that leaves has no RequestID
  on_row : (l : ℕ) (note : Note) → note.request ≡ number
      → (subtracts r.board item (term.Line (record { 0 = l })) ≡ false → IsRaised number (described_row (descriptors_for command) (r.line l) l number) note)
      → IsRaised number (line_after r command item number l) note
  on_row l note is stays = by_test (λ (row : LineRow). IsRaised number row note) (cleared (r.line l))
      (described_row (descriptors_for command) (r.line l) l number) (subtracts r.board item (term.Line (record { 0 = l })))
      (λ e. (is, λ armed. absurd (none_is_some number armed))) stays

  raised_on : (d : Option LineDescriptors) → ((l : ℕ) → is_line d l ≡ true → held l ≡ true) → (l : ℕ) (note : Note)
      → Contains (raised r d number) (note_on l note) → (held l ≡ true) × IsRaised number (described_row d (r.line l) l number) note
  raised_on None describing l note among = no_notes l note among
  raised_on (Some on) describing l note among =
      let is = new_note on.line (with_descriptors (r.line on.line) on.descriptors number).note l note among in
      let same : (on.line == l) ≡ true = eq-eqb on.line l is.0 in (
        describing l same,
        rw same (descriptors_note (r.line l) on.descriptors.signals on.descriptors.events number note
            (ap (λ (n : ℕ). (with_descriptors (r.line n) on.descriptors number).note) (sym is.0) ∙ is.1)),
      )

  pub notes_carried : ((l : ℕ) → is_line (descriptors_for command) l ≡ true → held l ≡ true) → AreNotes held number r.line r.notes
      → AreNotes held number (line_after r command item number) (standing r command item ++ raised r (descriptors_for command) number)
  notes_carried describing before l note among =
      elim (Contains-append_cases (standing r command item) (raised r (descriptors_for command) number) (note_on l note) among) [
        | inl stands ↦
            let kept = kept_by (λ (n : RaisedNote).
            not (subtracts r.board item (term.Line (record { 0 = n.line })) || has_new_events (descriptors_for command) n.line))
            r.notes (note_on l note) stands in
            let tests = neither (subtracts r.board item (term.Line (record { 0 = l }))) (has_new_events (descriptors_for command) l) kept.1 in
            let was = before l note kept.0 in (
              was.0,
              on_row l note was.1.0 (λ e. still_raised number (r.line l) (described_row (descriptors_for command) (r.line l) l number) note
                  (kept_rows (descriptors_for command) (r.line l) l number tests.1) was.1),
            )
        | inr new ↦
            let is = raised_on (descriptors_for command) describing l note new in (is.0, on_row l note is.1.0 (λ e. is.1))
      ]

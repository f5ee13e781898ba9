-- The lines while a request runs: one command takes the lines that show a configuration to lines that show what it makes of it; a line is
-- armed, emptied or left by it; and the lines of others stay.
use Rattle.mg_safety.proofs.Words.{◌≡◌, ◌∙◌, ◌<◌, ℕ, Bool, true, false, List, [], ◌∷◌, length, Option, Some, None, is_some, refl, sym, ap, arith, true≢false}
use Rattle.mg_safety.proofs.Words.{eqb-true, eq-eqb, ◌==◌, not, if◌then◌else◌, unwrap_or, option_map, list_any, ContextValue, Live, TermId, Signal, Ring}
use Rattle.mg_safety.proofs.Words.{DialTone, RingingTone, BusyTone, CongestionTone, all, EventsName, Empty, Spot, In, SignalSet, expected_if, list_of}
use Rattle.mg_safety.proofs.Words.{names_signal, set_of, Board, place_of, with_at, Configuration, is_in, is_live, is_free, plays_after, ListItem, LineRow}
use Rattle.mg_safety.proofs.Words.{Outcome, armed, cleared, silent, is_standing, with_signals, with_events, Script, signals_of, is_empty, by_test, same_test}
use Rattle.mg_safety.proofs.Words.{some_of, the_some, different, false_not_true, none_is_some}
use Rattle.mg_names.specs.declared.identifiers.TermId.TheVariants as term
use Rattle.mg_model.specs.declared.commands.Termination.TheVariants as termination
use Rattle.mg_model.specs.declared.commands.SignalsName.{SignalsName}
use Rattle.mg_safety.proofs.InvariantWords.{Naming, Shown, AreBuilt, number_at, context_for}

-- ---- the lines, as far as they show a configuration

pub record AreShown (script : Script) (lines : ℕ → ℕ) (expects : ℕ → Option ℕ) (line : ℕ → LineRow) (lists : ℕ → EventsName) (plays : ℕ → Bool) : Type 0 where
  pub events : (i : ℕ) → i < length script.lines → (line (lines i)).list ≡ list_of script (lists i)
  pub silent : (i : ℕ) → i < length script.lines → plays i ≡ false → (line (lines i)).playing ≡ silent
  pub expected : (i : ℕ) → i < length script.lines → (line (lines i)).request ≡ expects i
  pub unnamed : (i : ℕ) → i < length script.lines → (line (lines i)).request ≡ None → (line (lines i)).list ≡ []

-- ---- a command's descriptors

-- a new Events descriptor is the list and the RequestID
pub armed_list : (row : LineRow) (list : List ListItem) (number : ℕ) → (armed row list number).row.list ≡ list
armed_list row list number = by_test (λ (o : Outcome). o.row.list ≡ list) _ _ (list_any (is_standing row.hook) list) (λ e. refl) (λ e. refl)

pub armed_request : (row : LineRow) (list : List ListItem) (number : ℕ) → (armed row list number).row.request ≡ Some number
armed_request row list number = by_test (λ (o : Outcome). o.row.request ≡ Some number) _ _ (list_any (is_standing row.hook) list) (λ e. refl) (λ e. refl)

armed_silent : (row : LineRow) (list : List ListItem) (number : ℕ) → row.playing ≡ silent → (armed row list number).row.playing ≡ silent
armed_silent row list number e = by_test (λ (o : Outcome). o.row.playing ≡ silent) _ _ (list_any (is_standing row.hook) list) (λ was. refl) (λ was. e)

pub set_list : (row : LineRow) (signals : Option SignalSet) → (with_signals row signals).list ≡ row.list
set_list row None = refl
set_list row (Some set) = refl

pub set_request : (row : LineRow) (signals : Option SignalSet) → (with_signals row signals).request ≡ row.request
set_request row None = refl
set_request row (Some set) = refl

-- a set of no signals is silent
abbrev set_from : List Signal → SignalSet
set_from signals = record {
  ring = names_signal signals Ring;
  dial_tone = names_signal signals DialTone;
  ringing_tone = names_signal signals RingingTone;
  busy_tone = names_signal signals BusyTone;
  congestion_tone = names_signal signals CongestionTone;
}

empty_silent : (signals : List Signal) → not (is_empty signals) ≡ false → set_from signals ≡ silent
empty_silent [] e = refl
empty_silent (x ∷ xs) e = absurd (true≢false e)

signals_silent : (script : Script) (row : LineRow) (signals : Option SignalsName) (was : Bool) → (was ≡ false → row.playing ≡ silent)
    → plays_after script signals was ≡ false → (with_signals row (option_map (set_of script) signals)).playing ≡ silent
signals_silent script row None was before e = before e
signals_silent script row (Some name) was before e = empty_silent (signals_of script name) e

module _ (script : Script) (row : LineRow) (signals : Option SignalsName) (number : ℕ) where
  new_list : (events : Option EventsName) (was : EventsName) → row.list ≡ list_of script was
      → (with_events (with_signals row (option_map (set_of script) signals)) (option_map (list_of script) events) number).row.list
      ≡ list_of script (unwrap_or events was)
  new_list None was e = set_list row (option_map (set_of script) signals) ∙ e
  new_list (Some name) was e = armed_list (with_signals row (option_map (set_of script) signals)) (list_of script name) number

  new_playing : (events : Option EventsName) (was : Bool) → (was ≡ false → row.playing ≡ silent) → plays_after script signals was ≡ false
      → (with_events (with_signals row (option_map (set_of script) signals)) (option_map (list_of script) events) number).row.playing ≡ silent
  new_playing None was before e = signals_silent script row signals was before e
  new_playing (Some name) was before e = armed_silent (with_signals row (option_map (set_of script) signals)) (list_of script name) number
      (signals_silent script row signals was before e)

  new_request : (events : Option EventsName) (was : Option ℕ) → row.request ≡ was
      → (with_events (with_signals row (option_map (set_of script) signals)) (option_map (list_of script) events) number).row.request
      ≡ (if is_some events then Some number else was)
  new_request None was before = set_request row (option_map (set_of script) signals) ∙ before
  new_request (Some name) was before = armed_request (with_signals row (option_map (set_of script) signals)) (list_of script name) number

  new_unnamed : (events : Option EventsName) → (row.request ≡ None → row.list ≡ [])
      → (with_events (with_signals row (option_map (set_of script) signals)) (option_map (list_of script) events) number).row.request ≡ None
      → (with_events (with_signals row (option_map (set_of script) signals)) (option_map (list_of script) events) number).row.list ≡ []
  new_unnamed None before e =
      set_list row (option_map (set_of script) signals) ∙ before (sym (set_request row (option_map (set_of script) signals)) ∙ e)
  new_unnamed (Some name) before e =
      absurd (none_is_some number (sym e ∙ armed_request (with_signals row (option_map (set_of script) signals)) (list_of script name) number))

-- ---- a command for a line

-- what is expected of a line, with one test for the line and one for its descriptor
expects_at : (carries : Bool) (expects : ℕ → Option ℕ) (x number i : ℕ)
    → expected_if carries expects x number i ≡ (if i == x then (if carries then Some number else expects i) else expects i)
expects_at true expects x number i = refl
expects_at false expects x number i = by_test (λ (o : Option ℕ). expects i ≡ o) (expects i) (expects i) (i == x) (λ e. refl) (λ e. refl)

-- two lines of the call are one on the gateway exactly where they are one
line_test : (lines : ℕ → ℕ) (x i : ℕ) → (lines x ≡ lines i → x ≡ i) → (lines x == lines i) ≡ (i == x)
line_test lines x i once = same_test (lines x == lines i) (i == x) (λ e. eq-eqb i x (sym (once (eqb-true (lines x) (lines i) e))))
    (λ e. eq-eqb (lines x) (lines i) (ap lines (sym (eqb-true i x e))))

-- the row of a line by these descriptors
abbrev row_by : Script → Option EventsName → Option SignalsName → LineRow → ℕ → LineRow
row_by script events signals row number =
    (with_events (with_signals row (option_map (set_of script) signals)) (option_map (list_of script) events) number).row

module _ (script : Script) (lines : ℕ → ℕ) (expects : ℕ → Option ℕ) (line : ℕ → LineRow) (lists : ℕ → EventsName) (plays : ℕ → Bool)
    (shown : AreShown script lines expects line lists plays) (x number : ℕ) (events : Option EventsName) (signals : Option SignalsName) where
  list_at : (i : ℕ) (within : i < length script.lines) (same : Bool) → (i == x) ≡ same
      → (if same then row_by script events signals (line (lines i)) number else line (lines i)).list
      ≡ list_of script (if same then unwrap_or events (lists x) else lists i)
  list_at i within true e = new_list script (line (lines i)) signals number events (lists x)
      (shown.events i within ∙ ap (λ n. list_of script (lists n)) (eqb-true i x e))
  list_at i within false e = shown.events i within

  playing_at : (i : ℕ) (within : i < length script.lines) (same : Bool) → (i == x) ≡ same
      → (if same then plays_after script signals (plays x) else plays i) ≡ false
      → (if same then row_by script events signals (line (lines i)) number else line (lines i)).playing ≡ silent
  playing_at i within true e may = new_playing script (line (lines i)) signals number events (plays x)
      (λ was. shown.silent i within (ap plays (eqb-true i x e) ∙ was)) may
  playing_at i within false e may = shown.silent i within may

  request_at : (i : ℕ) (within : i < length script.lines) (same : Bool)
      → (if same then row_by script events signals (line (lines i)) number else line (lines i)).request
      ≡ (if same then (if is_some events then Some number else expects i) else expects i)
  request_at i within true = new_request script (line (lines i)) signals number events (expects i) (shown.expected i within)
  request_at i within false = shown.expected i within

  unnamed_at : (i : ℕ) (within : i < length script.lines) (same : Bool)
      → (if same then row_by script events signals (line (lines i)) number else line (lines i)).request ≡ None
      → (if same then row_by script events signals (line (lines i)) number else line (lines i)).list ≡ []
  unnamed_at i within true e = new_unnamed script (line (lines i)) signals number events (shown.unnamed i within) e
  unnamed_at i within false e = shown.unnamed i within e

  -- the lines after a command's descriptors for the line at x
  pub described_lines : ((i : ℕ) → i < length script.lines → lines x ≡ lines i → x ≡ i)
      → AreShown script lines (expected_if (is_some events) expects x number)
      (λ l. if lines x == l then row_by script events signals (line l) number else line l)
      (with_at lists x (unwrap_or events (lists x))) (with_at plays x (plays_after script signals (plays x)))
  described_lines once = record {
    events = λ i within. rw (line_test lines x i (once i within)) (list_at i within (i == x) refl);
    silent = λ i within may. rw (line_test lines x i (once i within)) (playing_at i within (i == x) refl may);
    expected = λ i within. rw (line_test lines x i (once i within))
        (request_at i within (i == x) ∙ sym (expects_at (is_some events) expects x number i));
    unnamed = λ i within. rw (line_test lines x i (once i within)) (unnamed_at i within (i == x));
  }

-- ---- a command that takes lines out of their context

module _ (script : Script) (lines : ℕ → ℕ) (expects after : ℕ → Option ℕ) (line : ℕ → LineRow) (lists : ℕ → EventsName) (plays : ℕ → Bool)
    (shown : AreShown script lines expects line lists plays) (out gone : ℕ → Bool) where
  cleared_list : (i : ℕ) (within : i < length script.lines) (leaves : Bool)
      → (if leaves then cleared (line (lines i)) else line (lines i)).list ≡ list_of script (if leaves then Empty else lists i)
  cleared_list i within true = refl
  cleared_list i within false = shown.events i within

  cleared_playing : (i : ℕ) (within : i < length script.lines) (leaves : Bool) → (if leaves then false else plays i) ≡ false
      → (if leaves then cleared (line (lines i)) else line (lines i)).playing ≡ silent
  cleared_playing i within true e = refl
  cleared_playing i within false e = shown.silent i within e

  cleared_request : (i : ℕ) (within : i < length script.lines) (leaves : Bool)
      → (if leaves then cleared (line (lines i)) else line (lines i)).request ≡ (if leaves then None else expects i)
  cleared_request i within true = refl
  cleared_request i within false = shown.expected i within

  cleared_unnamed : (i : ℕ) (within : i < length script.lines) (leaves : Bool)
      → (if leaves then cleared (line (lines i)) else line (lines i)).request ≡ None
      → (if leaves then cleared (line (lines i)) else line (lines i)).list ≡ []
  cleared_unnamed i within true e = refl
  cleared_unnamed i within false e = shown.unnamed i within e

  pub cleared_lines : ((i : ℕ) → i < length script.lines → out (lines i) ≡ gone i)
      → ((i : ℕ) → i < length script.lines → after i ≡ (if gone i then None else expects i))
      → AreShown script lines after (λ l. if out l then cleared (line l) else line l)
      (λ i. if gone i then Empty else lists i) (λ i. if gone i then false else plays i)
  cleared_lines agree expected = record {
    events = λ i within. rw (agree i within) (cleared_list i within (gone i));
    silent = λ i within may. rw (agree i within) (cleared_playing i within (gone i) may);
    expected = λ i within. rw (agree i within) (cleared_request i within (gone i) ∙ sym (expected i within));
    unnamed = λ i within. rw (agree i within) (cleared_unnamed i within (gone i));
  }

-- ---- who leaves with `subtract *`

live_bound : (value : ContextValue) → is_live value ≡ true → not (is_free value) ≡ true
live_bound Live e = refl
live_bound value e = absurd (false_not_true e)

module _ (script : Script) (owned : TermId → Bool) (n m : Naming) (b : Board) (c : Configuration) (shown : Shown script owned n b c)
    (built : AreBuilt n m b) (j : ℕ) (live : is_live (c.context j) ≡ true) where
  null_apart : (x : ℕ) → n.contexts j ≡ Some x → (0 == x) ≡ false
  null_apart x e = different 0 x (λ is. let above : 0 < x = (shown.context_real j x e).0.0 in omega (arith, above, is))

  in_test : (x : ℕ) → n.contexts j ≡ Some x → (spot : Spot) → ((i : ℕ) → spot ≡ In i → is_some (n.contexts i) ≡ true)
      → (number_at n spot == x) ≡ is_in spot j
  in_test x e (In i) bound = by_number (some_of (n.contexts i) (bound i refl))
    where
      by_number : (y : ℕ) × (n.contexts i ≡ Some y) → (unwrap_or (n.contexts i) 0 == x) ≡ (i == j)
      by_number (y, is) = ap (λ o. unwrap_or o 0 == x) is ∙ same_test (y == x) (i == j)
          (λ same. eq-eqb i j (shown.context_once i j x (is ∙ ap (λ z. Some z) (eqb-true y x same)) e))
          (λ same. eq-eqb y x (the_some y x (sym is ∙ ap n.contexts (eqb-true i j same) ∙ e)))
  in_test x e spot bound = null_apart x e

  pub leaves_test : (i : ℕ) → i < length script.lines
      → (place_of b (term.Line (record { 0 = n.lines i })) == context_for m j) ≡ is_in (c.spot (termination.Line i)) j
  leaves_test i within =
      let bound = some_of (n.contexts j) (shown.bound j ∙ live_bound (c.context j) live) in
      ap (λ p. p == context_for m j) (shown.place (termination.Line i) within)
      ∙ ap (λ o. number_at n (c.spot (termination.Line i)) == unwrap_or o all) (built.context j bound.0 bound.1)
      ∙ in_test bound.0 bound.1 (c.spot (termination.Line i)) (λ k e. shown.in_bound (termination.Line i) k within e)

-- The lines of a gateway on which one more call is opened.
use Rattle.std.proofs.Common.{◌≡◌, ◌∙◌, ℕ, zero, suc, ◌<◌, get_or, Bool, true, false, List, [], ◌∷◌, length, Option, Some, None, ◌⊎◌, inl, inr, true≢false, refl, sym, subst, ap, arith}
use Rattle.std.specs.Prelude.{◌==◌, if◌then◌else◌, Contains, is_some}
use Rattle.std.specs.List.{list_all}
use Rattle.std.proofs.lemmas.List.Elements.{Contains-append_cases, Contains-append_right}
use Rattle.std.proofs.lemmas.Option.{same_Some}
use Rattle.std.proofs.lemmas.Bool.{and_parts}
use Rattle.mg_names.specs.declared.identifiers.LineNo.{LineNo}
use Rattle.mg_names.specs.declared.identifiers.TermId.TheVariants.{Line}
use Rattle.mg_model.specs.declared.rows.Row.{Row}
use Rattle.mg_model.specs.Board.{null_row}
use Rattle.mg_model.specs.Gateway.{Gateway}
use Rattle.mg_model.specs.LineEvents.{LineRow, new_line}
use Rattle.mg_model.specs.Script.{Script}
use Rattle.mg_model.specs.World.{AreOpenedLines, IsLineOf, Opened, armed_line}
use Rattle.mg_model.proofs.OpenedLines.{line_armed, line_held, line_stands, opened_lines}
use Rattle.contexts.specs.BoardValue.{names_line}
use Rattle.requests.specs.Connected.{is_idle, has_line, opened_line}
use Rattle.gateway.specs.Openings.{has_twice, inactive_row, is_free, opened}
use Rattle.systems.specs.Openings.{line_at}
use Rattle.systems.proofs.LineLists.{free_at, named, place_of_named}

-- ---- the latest call, and those before it

pub first_in : (x : Opened) (xs : List Opened) → Contains (x ∷ xs) x
first_in x xs = (0, omega arith, refl)

pub later_in : (x : Opened) (xs : List Opened) (y : Opened) → Contains xs y → Contains (x ∷ xs) y
later_in x xs y among = Contains-append_right (x ∷ []) xs y among

only_in : (x y : Opened) → Contains (x ∷ []) y → x ≡ y
only_in x y among = at_first among.0 among.1 among.2
  where
    at_first : (i : ℕ) → i < 1 → get_or (x ∷ []) i y ≡ y → x ≡ y
    at_first zero within is = is
    at_first (suc i) within is = absurd (let below : suc i < 1 = within in omega (arith, below))

pub latest_or_earlier : (x : Opened) (xs : List Opened) (y : Opened) → Contains (x ∷ xs) y → (x ≡ y) ⊎ Contains xs y
latest_or_earlier x xs y among = elim (Contains-append_cases (x ∷ []) xs y among) [
  | inl here ↦ inl (only_in x y here)
  | inr later ↦ inr later
]

-- ---- rows and lines

there : (row : Option Row) → is_some row ≡ true → ((r : Row) → row ≡ Some r → r ≡ null_row) → row ≡ Some null_row
there None is null = absurd (true≢false (sym is))
there (Some r) is null = ap (λ (x : Row). Some x) (null r refl)

still_null : (among : Bool) (row : Option Row) → row ≡ Some null_row → (if among then inactive_row row else row) ≡ Some null_row
still_null true row is = ap inactive_row is
still_null false row is = is

null_after : (among : Bool) (row : Option Row) → ((r : Row) → row ≡ Some r → r ≡ null_row) → (r : Row)
    → (if among then inactive_row row else row) ≡ Some r → r ≡ null_row
null_after false row null r is = null r is
null_after true None null r is = absurd (no_row r is)
  where
    no_row : (r : Row) → None ≡ Some r → ⊥
    no_row r same = true≢false (sym (ap is_some same))
null_after true (Some old) null r is =
    same_Some r null_row (sym is ∙ ap (λ (x : Row). inactive_row (Some x)) (null old refl))

still_armed : (among : Bool) (row : LineRow) → row ≡ armed_line → (if among then opened_line row else row) ≡ armed_line
still_armed true row is = ap opened_line is
still_armed false row is = is

now_armed : (among : Bool) (row : LineRow) → among ≡ true → row.hook ≡ new_line.hook → (if among then opened_line row else row) ≡ armed_line
now_armed true row is hook = ap (λ h. record armed_line { hook = h }) hook
now_armed false row is hook = absurd (true≢false (sym is))

now_held : (among : Bool) (call : ℕ) (holder : Option ℕ) → among ≡ true → (if among then Some call else holder) ≡ Some call
now_held true call holder is = refl
now_held false call holder is = absurd (true≢false (sym is))

pub still_hook : (among : Bool) (row : LineRow) → row.hook ≡ new_line.hook → (if among then opened_line row else row).hook ≡ new_line.hook
still_hook true row is = is
still_hook false row is = is

no_number : (n : ℕ) (o : Option ℕ) → o ≡ None → o ≡ Some n → ⊥
no_number n o none some = true≢false (sym (ap is_some (sym none ∙ some)))

-- ---- a call is opened on lines that are free

pub record MayOpen (script : Script) (g : Gateway) (lines : List LineNo) : Type 0 where
  pub all_lines : length lines ≡ length script.lines
  pub free : list_all (is_free g.board g.holder) lines ≡ true
  pub once : has_twice lines ≡ false

module _ (script : Script) (g : Gateway) (calls : List Opened) (call : ℕ) (lines : List LineNo) (may : MayOpen script g lines) where
  abbrev one : Opened
  one = record { call = call; lines = line_at lines }

  free : (i : ℕ) → i < length script.lines → (is_idle g.board (line_at lines i) ≡ true) × (g.holder (line_at lines i) ≡ None)
  free i within = free_at g.board g.holder lines i may.free (omega (arith, within, may.all_lines))

  among : (i : ℕ) → i < length script.lines → names_line lines (line_at lines i) ≡ true
  among i within = named lines i (omega (arith, within, may.all_lines))

  -- a line that a call holds isn't among them
  pub not_held : (n : ℕ) (c : ℕ) → g.holder n ≡ Some c → names_line lines n ≡ true → ⊥
  not_held n c held is =
      let place = place_of_named lines n is in
      let none = (free place.0 (omega (arith, place.1.0, may.all_lines))).1 in
      no_number c (g.holder n) (subst (λ (l : ℕ). g.holder l ≡ None) place.1.1 none) held

  pub lines_opened : AreOpenedLines script calls g → ((l : ℕ) → (g.line l).hook ≡ new_line.hook) → AreOpenedLines script (one ∷ calls) (opened g call lines)
  lines_opened before hooks = opened_lines script (one ∷ calls) (opened g call lines) stand armed held
      (λ l row is. null_after (names_line lines l) (g.board.row (Line (record { 0 = l }))) (before.others_null l) row is)
      (λ l c is. held_by l c (names_line lines l) refl is)
    where
      stands : (i : ℕ) → i < length script.lines → (opened g call lines).board.row (Line (record { 0 = line_at lines i })) ≡ Some null_row
      stands i within =
          let n = line_at lines i in
          let row = g.board.row (Line (record { 0 = n })) in
          still_null (names_line lines n) row
          (there row (and_parts (has_line g.board n) _ (free i within).0).0 (before.others_null n))

      still_held : (n c : ℕ) → g.holder n ≡ Some c → (is : Bool) → names_line lines n ≡ is → (if is then Some call else g.holder n) ≡ Some c
      still_held n c held true is = absurd (not_held n c held is)
      still_held n c held false is = held

      held_by : (l c : ℕ) (is : Bool) → names_line lines l ≡ is → (if is then Some call else g.holder l) ≡ Some c → IsLineOf script (one ∷ calls) l c
      held_by l c true is held =
          let place = place_of_named lines l is in
          record { one = one; i = place.0; among = first_in one calls; is_call = same_Some call c held; within = omega (arith, place.1.0, may.all_lines); is_line = place.1.1 }
      held_by l c false is held =
          let by = (before.held l c).0 held in
          record { one = by.one; i = by.i; among = later_in one calls by.one by.among; is_call = by.is_call; within = by.within; is_line = by.is_line }

      stand : (other : Opened) → Contains (one ∷ calls) other → (i : ℕ) → i < length script.lines
          → (opened g call lines).board.row (Line (record { 0 = other.lines i })) ≡ Some null_row
      stand other contains i within = elim (latest_or_earlier one calls other contains) [
        | inl same ↦ subst (λ (o : Opened). (opened g call lines).board.row (Line (record { 0 = o.lines i })) ≡ Some null_row) same (stands i within)
        | inr later ↦ still_null (names_line lines (other.lines i)) (g.board.row (Line (record { 0 = other.lines i }))) (line_stands script calls g before other later i within)
      ]

      armed : (other : Opened) → Contains (one ∷ calls) other → (i : ℕ) → i < length script.lines → (opened g call lines).line (other.lines i) ≡ armed_line
      armed other contains i within = elim (latest_or_earlier one calls other contains) [
        | inl same ↦ subst (λ (o : Opened). (opened g call lines).line (o.lines i) ≡ armed_line) same
            (now_armed (names_line lines (line_at lines i)) (g.line (line_at lines i)) (among i within) (hooks (line_at lines i)))
        | inr later ↦ still_armed (names_line lines (other.lines i)) (g.line (other.lines i)) (line_armed script calls g before other later i within)
      ]

      held : (other : Opened) → Contains (one ∷ calls) other → (i : ℕ) → i < length script.lines → (opened g call lines).holder (other.lines i) ≡ Some other.call
      held other contains i within = elim (latest_or_earlier one calls other contains) [
        | inl same ↦ subst (λ (o : Opened). (opened g call lines).holder (o.lines i) ≡ Some o.call) same
            (now_held (names_line lines (line_at lines i)) call (g.holder (line_at lines i)) (among i within))
        | inr later ↦ still_held (other.lines i) other.call (line_held script calls g before other later i within) (names_line lines (other.lines i)) refl
      ]

-- Opening lines one after the other.
use Rattle.std.proofs.Common.{◌≡◌, ◌∙◌, ℕ, ◌==◌, ◌&&◌, ◌||◌, Bool, true, false, if◌then◌else◌, List, ◌∷◌, Option, Some, None, is_some, refl, sym, ap, rules, arith}
use Rattle.std.proofs.lemmas.Grind.{common_steps}
use Rattle.std.proofs.lemmas.Bool.{eqb-true}
use Rattle.mg_names.specs.declared.identifiers.LineNo.{LineNo}
use Rattle.mg_names.specs.declared.identifiers.TermId.{TermId}
use Rattle.mg_names.specs.declared.identifiers.TermId.TheVariants.{Line, Eph}
use Rattle.mg_names.specs.declared.modes.Mode.TheVariants.{Inactive}
use Rattle.mg_model.specs.declared.rows.Row.{Row}
use Rattle.mg_model.specs.Board.{Board}
use Rattle.mg_model.specs.LineEvents.{LineRow}
use Rattle.contexts.specs.BoardValue.{names_line}
use Rattle.requests.specs.Connected.{has_line, opened_line, lines_opened}
use Rattle.requests.specs.Idle.{idle_row, deactivated}
use Rattle.gateway.specs.Standby.{rows_idled, lines_armed}

-- setting a row Inactive twice is setting it once
idle_twice : (row : Option Row) → idle_row (idle_row row) ≡ idle_row row
idle_twice None = refl
idle_twice (Some row) = by_test (row.place.0 == 0) refl
  where
    by_test : (b : Bool) → (row.place.0 == 0) ≡ b →
        idle_row (if b then Some (record row { mode = Inactive }) else Some row) ≡ (if b then Some (record row { mode = Inactive }) else Some row)
    by_test true e = rw e refl
    by_test false e = rw e refl

idled_line : (rows : TermId → Option Row) (k n : ℕ) (same among : Bool) → (n == k) ≡ same →
    (if among then idle_row (if same then idle_row (rows (Line (record { 0 = k }))) else rows (Line (record { 0 = n })))
    else (if same then idle_row (rows (Line (record { 0 = k }))) else rows (Line (record { 0 = n }))))
    ≡ (if same || among then idle_row (rows (Line (record { 0 = n }))) else rows (Line (record { 0 = n })))
idled_line rows k n true true e =
    idle_twice (rows (Line (record { 0 = k }))) ∙ ap (λ (m : ℕ). idle_row (rows (Line (record { 0 = m })))) (sym (eqb-true n k e))
idled_line rows k n true false e = ap (λ (m : ℕ). idle_row (rows (Line (record { 0 = m })))) (sym (eqb-true n k e))
idled_line rows k n false true e = refl
idled_line rows k n false false e = refl

-- the rows of a board after one more line
pub idled_more : (b : Board) (l : LineNo) (lines : List LineNo) (t : TermId) → rows_idled lines (deactivated b l.0).row t ≡ rows_idled (l ∷ lines) b.row t
idled_more b l lines (Line m) = idled_line b.row l.0 m.0 (m.0 == l.0) (names_line lines m.0) refl
idled_more b l lines (Eph k) = refl

pub there_idle : (row : Option Row) → is_some (idle_row row) ≡ is_some row
there_idle None = refl
there_idle (Some row) = by_test (row.place.0 == 0)
  where
    by_test : (b : Bool) → is_some (if b then Some (record row { mode = Inactive }) else Some row) ≡ true
    by_test true = refl
    by_test false = refl

pub there_deactivated : (b : Board) (k n : ℕ) → has_line (deactivated b k) n ≡ has_line b n
there_deactivated b k n = by_test (n == k) refl
  where
    by_test : (same : Bool) → (n == k) ≡ same →
        is_some (if same then idle_row (b.row (Line (record { 0 = k }))) else b.row (Line (record { 0 = n }))) ≡ is_some (b.row (Line (record { 0 = n })))
    by_test true e = there_idle (b.row (Line (record { 0 = k }))) ∙ ap (λ (m : ℕ). is_some (b.row (Line (record { 0 = m })))) (sym (eqb-true n k e))
    by_test false e = refl

-- the rows of the lines after one more line
armed_line_more : (rows : ℕ → LineRow) (k n : ℕ) (there there_k same among : Bool) → (n == k) ≡ same → (same ≡ true → there_k ≡ there) →
    (if there && among then opened_line (if there_k && same then opened_line (rows k) else rows n) else (if there_k && same then opened_line (rows k) else rows n))
    ≡ (if there && (same || among) then opened_line (rows n) else rows n)
armed_line_more rows k n true there_k false true e t = grind (arith, common_steps)
armed_line_more rows k n true there_k false false e t = grind (arith, common_steps)
armed_line_more rows k n false there_k false among e t = grind (arith, common_steps)
armed_line_more rows k n true true true true e t = ap (λ (m : ℕ). opened_line (rows m)) (sym (eqb-true n k e))
armed_line_more rows k n true true true false e t = ap (λ (m : ℕ). opened_line (rows m)) (sym (eqb-true n k e))
armed_line_more rows k n true false true among e t = absurd (search (rules, t refl))
armed_line_more rows k n false false true among e t = refl
armed_line_more rows k n false true true among e t = absurd (search (rules, t refl))

pub armed_more : (b : Board) (rows : ℕ → LineRow) (l : LineNo) (lines : List LineNo) (n : ℕ)
    → lines_armed b lines (lines_opened (has_line b l.0) rows l.0) n ≡ lines_armed b (l ∷ lines) rows n
armed_more b rows l lines n =
    armed_line_more rows l.0 n (has_line b n) (has_line b l.0) (n == l.0) (names_line lines n) refl (λ e. ap (has_line b) (sym (eqb-true n l.0 e)))

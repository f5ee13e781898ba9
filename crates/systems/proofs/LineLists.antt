-- Lists of lines: what is named in them, and where.
use Rattle.std.proofs.Common.{◌≡◌, ◌∙◌, ℕ, zero, suc, ◌+◌, ◌<◌, Bool, true, false, List, [], ◌∷◌, length, Option, Some, None, true≢false, refl, sym, subst, ap, arith}
use Rattle.std.specs.Prelude.{◌==◌, ◌||◌, ◌&&◌, not, is_some}
use Rattle.std.specs.List.{list_all}
use Rattle.std.proofs.lemmas.Bool.{eqb-true, eq-eqb, and_parts, or_parts, or_right}
use Rattle.mg_names.specs.declared.identifiers.LineNo.{LineNo}
use Rattle.mg_model.specs.Board.{Board}
use Rattle.contexts.specs.BoardValue.{names_line}
use Rattle.requests.specs.Connected.{is_idle}
use Rattle.gateway.specs.Openings.{has_twice, is_free}
use Rattle.systems.specs.Openings.{line_at}

-- ---- tests

pub none_where : {A : Type 0} (o : Option A) → not (is_some o) ≡ true → o ≡ None
none_where None is = refl
none_where (Some x) is = absurd (true≢false (sym is))

-- ---- places

pub named : (lines : List LineNo) (i : ℕ) → i < length lines → names_line lines (line_at lines i) ≡ true
named [] i within = absurd (omega (arith, within))
named (l ∷ lines) zero within = ap (λ (b : Bool). b || names_line lines l.0) (eq-eqb l.0 l.0 refl)
named (l ∷ lines) (suc i) within =
    or_right (line_at lines i == l.0) (names_line lines (line_at lines i)) (named lines i (omega (arith, within)))

pub place_of_named : (lines : List LineNo) (n : ℕ) → names_line lines n ≡ true → (i : ℕ) × ((i < length lines) × (line_at lines i ≡ n))
place_of_named [] n is = absurd (true≢false (sym is))
place_of_named (l ∷ lines) n is = by_first (n == l.0) refl is (place_of_named lines n)
  where
    by_first : (same : Bool) → (n == l.0) ≡ same → (same || names_line lines n) ≡ true
        → (names_line lines n ≡ true → (i : ℕ) × ((i < length lines) × (line_at lines i ≡ n)))
        → (i : ℕ) × ((i < length (l ∷ lines)) × (line_at (l ∷ lines) i ≡ n))
    by_first true equal rest more = (0, (omega arith, sym (eqb-true n l.0 equal)))
    by_first false equal rest more = let later = more rest in (suc later.0, (omega (arith, later.1.0), later.1.1))

pub one_place : (lines : List LineNo) (i j : ℕ) → has_twice lines ≡ false → i < length lines → j < length lines
    → line_at lines i ≡ line_at lines j → i ≡ j
one_place [] i j once within other same = absurd (omega (arith, within))
one_place (l ∷ lines) zero zero once within other same = refl
one_place (l ∷ lines) zero (suc j) once within other same =
    let none = (or_parts (names_line lines l.0) (has_twice lines) once).0 in
    absurd (true≢false (sym (subst (λ (n : ℕ). names_line lines n ≡ true) (sym same) (named lines j (omega (arith, other)))) ∙ none))
one_place (l ∷ lines) (suc i) zero once within other same =
    let none = (or_parts (names_line lines l.0) (has_twice lines) once).0 in
    absurd (true≢false (sym (subst (λ (n : ℕ). names_line lines n ≡ true) same (named lines i (omega (arith, within)))) ∙ none))
one_place (l ∷ lines) (suc i) (suc j) once within other same =
    ap (λ (n : ℕ). suc n) (one_place lines i j (or_parts (names_line lines l.0) (has_twice lines) once).1 (omega (arith, within))
    (omega (arith, other)) same)

pub free_at : (b : Board) (holder : ℕ → Option ℕ) (lines : List LineNo) (i : ℕ) → list_all (is_free b holder) lines ≡ true → i < length lines
    → (is_idle b (line_at lines i) ≡ true) × (holder (line_at lines i) ≡ None)
free_at b holder [] i free within = absurd (omega (arith, within))
free_at b holder (l ∷ lines) zero free within =
    let first = and_parts (is_idle b l.0) (not (is_some (holder l.0))) (and_parts (is_free b holder l) (list_all (is_free b holder) lines) free).0 in
    (first.0, none_where (holder l.0) first.1)
free_at b holder (l ∷ lines) (suc i) free within =
    free_at b holder lines i (and_parts (is_free b holder l) (list_all (is_free b holder) lines) free).1 (omega (arith, within))

-- Rows with one changed: nothing, twice, and by what a command sets.
use Rattle.std.proofs.Common.{◌≡◌, IsTrue, is_some, if◌then◌else◌, refl, ap, ◌∙◌, rules, Option, Some, None}
use Rattle.mg_names.specs.declared.identifiers.TermId.{TermId}
use Rattle.mg_names.specs.declared.identifiers.TermId.TheVariants.{Line, Eph}
use Rattle.mg_names.specs.declared.identifiers.ContextId.{ContextId}
use Rattle.mg_model.specs.declared.items.Settings.{Settings}
use Rattle.mg_model.specs.declared.rows.Row.{Row}
use Rattle.mg_model.specs.Board.{same_term, place_in}
use Rattle.mg_model.specs.Items.{subtracted}
use Rattle.terminations.specs.Table.{cleared}
use Rattle.mg_model.specs.Board.{row_with}
use Rattle.mg_model.proofs.Terminations.{same_term_is, same_term_self}
use Rattle.terminations.specs.Rows.{set_on}
use Rattle.contexts.specs.Rows.{row_in}
use Rattle.contexts.proofs.TermLemmas.{by_value}

pub row_with_same : (rows : TermId → Option Row) (t : TermId) → rows ≡ row_with rows t (rows t)
row_with_same rows t = λ i u. at u i
  where
    at : (u : TermId) → rows u ≡ row_with rows t (rows t) u
    at u = by_value (same_term u t) (λ e. rw e (ap rows (same_term_is u t e))) (λ e. rw e refl)

pub row_with_here : (rows : TermId → Option Row) (t : TermId) (row : Option Row) → row_with rows t row t ≡ row
row_with_here rows t row = rw (same_term_self t) refl

pub row_with_twice : (rows : TermId → Option Row) (t : TermId) (one two : Option Row) → row_with (row_with rows t one) t two ≡ row_with rows t two
row_with_twice rows t one two = λ i u. at u i
  where
    at : (u : TermId) → row_with (row_with rows t one) t two u ≡ row_with rows t two u
    at u = by_value (same_term u t) (λ e. rw e refl) (λ e. rw e refl)

-- a change, and another one of the row that is there then
pub changes_twice : (rows between after : TermId → Option Row) (t : TermId) (f g : Option Row → Option Row) →
    between ≡ row_with rows t (f (rows t)) → after ≡ row_with between t (g (between t)) → after ≡ row_with rows t (g (f (rows t)))
changes_twice rows between after t f g first second =
    let there : between t ≡ f (rows t) = ap (λ (h : TermId → Option Row). h t) first ∙ row_with_here rows t (f (rows t)) in
    second ∙ ap (λ (o : Option Row). row_with between t (g o)) there ∙ ap (λ (h : TermId → Option Row). row_with h t (g (f (rows t)))) first
    ∙ row_with_twice rows t (f (rows t)) (g (f (rows t)))

-- what is set on a row that is there
pub set_in_place : (settings : Settings) (row : Option Row) → IsTrue (is_some row) → set_on None settings row ≡ row_in (place_in row) settings row
set_in_place settings None there = absurd (search rules)
set_in_place settings (Some row) there = refl

pub set_elsewhere : (context : ContextId) (settings : Settings) (row : Option Row) → IsTrue (is_some row) → set_on (Some context) settings row ≡ row_in context.0 settings row
set_elsewhere context settings None there = absurd (search rules)
set_elsewhere context settings (Some row) there = refl

pub cleared_place : (t : TermId) (row : Option Row) → place_in (cleared t row) ≡ 0
cleared_place (Line l) None = refl
cleared_place (Line l) (Some row) = refl
cleared_place (Eph k) row = refl

pub cleared_is : (t : TermId) (row : Option Row) → IsTrue (is_some row) → cleared t row ≡ subtracted t
cleared_is (Line l) None there = absurd (search rules)
cleared_is (Line l) (Some row) there = refl
cleared_is (Eph k) row there = refl

pub subtracted_one : (rows : TermId → Option Row) (t : TermId) → IsTrue (is_some (rows t)) →
    row_with rows t (cleared t (rows t)) ≡ (λ u. if same_term u t then subtracted u else rows u)
subtracted_one rows t there = λ i u. at u i
  where
    at : (u : TermId) → row_with rows t (cleared t (rows t)) u ≡ (if same_term u t then subtracted u else rows u)
    at u = by_value (same_term u t) (λ e. let is = same_term_is u t e in rw (e, is) (cleared_is t (rows t) there)) (λ e. rw e refl)

-- A board that is settled is one, and what a restart leaves of a row.
use Rattle.std.proofs.Common.{◌≡◌, ◌∙◌, ℕ, Bool, true, false, IsTrue, Option, Some, None, is_some, refl, sym, rules, ◌↔◌}
use Rattle.mg_names.specs.declared.identifiers.TermId.{TermId}
use Rattle.mg_names.specs.declared.identifiers.TermId.TheVariants.{Line, Eph}
use Rattle.mg_model.specs.declared.rows.Row.{Row}
use Rattle.mg_model.specs.Board.{Board, IsSettled, place_in}
use Rattle.mg_model.specs.Gateway.{row_restarted}

-- two tests of one thing answer the same
same_answer : {P : Type 0} (a b : Bool) → IsTrue a ↔ P → IsTrue b ↔ P → a ≡ b
same_answer true true one other = refl
same_answer false false one other = refl
same_answer true false one other = absurd (let h : IsTrue false = other.1 (one.0 (search rules)) in search rules)
same_answer false true one other = absurd (let h : IsTrue false = one.1 (other.0 (search rules)) in search rules)

pub settled_same : (b x y : Board) → IsSettled b x → IsSettled b y → x ≡ y
settled_same b x y one other = λ i. record {
  row = (one.row ∙ sym other.row) i;
  cut = (one.cut ∙ sym other.cut) i;
  used_context = λ c. same_answer (x.used_context c) (y.used_context c) (one.contexts c) (other.contexts c) i;
  used_ephemeral = λ k. (one.ephemerals k ∙ sym (other.ephemerals k)) i;
  class = (one.class ∙ sym other.class) i;
}

-- ---- restart

pub restarted_gone : (x : ℕ) (row : Option Row) → is_some (row_restarted (Eph x) row) ≡ false
restarted_gone x None = refl
restarted_gone x (Some row) = refl

pub restarted_in_null : (t : TermId) (row : Option Row) → place_in (row_restarted t row) ≡ 0
restarted_in_null t None = refl
restarted_in_null (Line l) (Some row) = refl
restarted_in_null (Eph x) (Some row) = refl

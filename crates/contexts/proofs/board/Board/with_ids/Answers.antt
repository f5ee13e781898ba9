use Rattle.std.proofs.Common.{◌≡◌, ◌∙◌, Option, None, ap, refl}
use Rattle.mg_names.specs.declared.identifiers.TermId.{TermId}
use Rattle.mg_names.specs.declared.identifiers.TermId.TheVariants.{Line, Eph}
use Rattle.mg_names.specs.declared.identifiers.LineNo.{LineNo}
use Rattle.mg_model.specs.declared.rows.Row.{Row}
use Rattle.mg_model.specs.Board.{place_in}
use Rattle.std.proofs.Common.{List}
use Rattle.contexts.specs.BoardValue.{board_of, started, filled, names_line}
use Rattle.contexts.specs.Groups.{items_in}
use Rattle.contexts.proofs.StockLemmas.{one_class_still, class_still, used_shown}
use Rattle.contexts.proofs.TieLemmas.{same_boards, tied_none}
use Rattle.contexts.proofs.TermLemmas.{by_value}
use Rattle.contexts.proofs.board.Board.with_ids.Goals as goal

from_nothing : (lines : List LineNo) (t : TermId) → filled lines (λ u. None) t ≡ started lines t
from_nothing lines (Line l) = refl
from_nothing lines (Eph k) = refl

pub returns : goal.returns
unfolding board_of
returns c = same_boards _ _
    (λ i t. (c.in_ok-add_lines.ensures.rows t ∙ ap (λ (rows : TermId → Option Row). filled c.args.lines.now rows t) c.with_ids-terms.ensures.rows ∙ from_nothing c.args.lines.now t) i)
    (rw c.new-2.ensures.empty refl)
    (used_shown c.new.result ∙ (λ i n. c.new.ensures.used n i))
    (c.in_ok-add_lines.ensures.numbers.used ∙ c.with_ids-terms.ensures.used)
    (class_still (c.in_ok-add_lines.ensures.numbers.class ∙ c.with_ids-terms.ensures.class))

-- nothing stands in a context of a new board
pub invariant_of-result : goal.invariant_of-result
invariant_of-result c = (
  tied_none _ _ _ (λ t. rw (c.in_ok-add_lines.ensures.rows t, c.with_ids-terms.ensures.rows) (idle c.args.lines.now t)) (λ d. ap items_in (c.new.ensures.values d)) (λ d. rw c.new-2.ensures.empty refl),
  one_class_still _ _ _ _ (c.in_ok-add_lines.ensures.numbers.class ∙ c.with_ids-terms.ensures.class) c.new.ensures.class (record { first = refl; stride = refl; last = refl }),
)
  where
    idle : (lines : List LineNo) (t : TermId) → place_in (filled lines (λ u. None) t) ≡ 0
    idle lines (Line l) = by_value (names_line lines l.0) (λ e. rw e refl) (λ e. rw e refl)
    idle lines (Eph k) = refl

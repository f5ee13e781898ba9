use Rattle.std.proofs.Common.{refl, ap, ◌∙◌}
use Rattle.contexts.specs.Groups.{items_in}
use Rattle.contexts.specs.BoardValue.{board_of}
use Rattle.contexts.proofs.StockLemmas.{one_class_still, class_still, used_shown}
use Rattle.contexts.proofs.TieLemmas.{same_boards, tied_none}
use Rattle.contexts.proofs.RowLemmas.{cleared_place}
use Rattle.terminations.specs.Table.{row_of}
use Rattle.contexts.proofs.board.Board.reset.Goals as goal

pub returns : goal.returns
unfolding board_of
returns c = rw (← c.self.view_is) (same_boards _ _ c.reset.ensures.rows (rw c.clear-2.ensures.empty refl)
    (used_shown c.clear.new.self ∙ (λ i n. c.clear.ensures.used n i)) c.reset.ensures.used (class_still c.reset.ensures.class))

-- nothing stands in a context any more
pub invariant_of-self : goal.invariant_of-self
invariant_of-self c = (
  tied_none _ _ _ (λ t. rw c.reset.ensures.rows (cleared_place t (row_of c.self.inside.terms t))) (λ d. ap items_in (c.clear.ensures.values d)) (λ d. rw c.clear-2.ensures.empty refl),
  one_class_still _ _ _ _ c.reset.ensures.class c.clear.ensures.class c.self.invariant.1,
)

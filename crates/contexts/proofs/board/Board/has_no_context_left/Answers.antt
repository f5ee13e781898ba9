use Rattle.contexts.specs.BoardValue.{board_of}
use Rattle.contexts.proofs.StockLemmas.{none_left_iff, used_at}
use Rattle.contexts.proofs.board.Board.has_no_context_left.Goals as goal

pub returns : goal.returns
unfolding board_of
returns c =
    let left = none_left_iff c.self.inside.terms.ephemerals.class c.self.inside.members c.self.invariant.1 in
    rw (← c.self.view_is) (
      λ h n fits of_class. rw (used_at c.self.inside.members n) (left.0 (c.is_full.ensures.0 h) n fits of_class),
      λ h. c.is_full.ensures.1 (left.1 (λ n fits of_class. rw (used_at c.self.inside.members n) at (h n fits of_class))),
    )

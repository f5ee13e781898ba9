use Rattle.std.proofs.Common.{◌==◌, ◌∙◌, sym, ap}
use Rattle.mg_model.specs.Board.{place_in}
use Rattle.mg_model.specs.Items.{without_cuts}
use Rattle.terminations.specs.Table.{row_of}
use Rattle.contexts.specs.Groups.{group_at, members_at}
use Rattle.contexts.specs.BoardValue.{board_of}
use Rattle.contexts.proofs.TieLemmas.{same_boards, cut_of_same, cuts_viewed}
use Rattle.contexts.proofs.ClearLemmas.{Clears, clears_rows, subtracted_all, tied_cleared, cut_cleared, cleared_by}
use Rattle.contexts.proofs.StockLemmas.{one_class_still, class_still, same_used}
use Rattle.contexts.proofs.board.Board.subtract_all.Goals as goal

clears : (c : goal.After-clear-2) → Clears (row_of c.self.inside.terms) (row_of c.release_all.new.terms) (members_at c.self.inside.members) (members_at c.clear.new.members)
    (group_at c.self.inside.cuts.entries) (group_at c.clear-2.new.cuts.entries) c.args.context
clears c = record {
  not_null = c.requires;
  rows_are = λ u. c.release_all.ensures.rows u ∙ ap (λ group. cleared_by group (row_of c.self.inside.terms) u) c.of_context.ensures;
  members = c.clear.ensures.members;
  cuts = c.clear-2.ensures;
}

pub invariant_of-self : goal.invariant_of-self
invariant_of-self c = (tied_cleared _ _ _ _ _ _ _ (clears c) c.self.invariant.0, one_class_still _ _ _ _ c.release_all.ensures.numbers.class c.clear.ensures.class c.self.invariant.1)

pub returns : goal.returns
unfolding board_of
returns c = rw (← c.self.view_is) (same_boards _ _
    (subtracted_all _ _ _ c.requires (clears_rows _ _ _ _ _ _ _ (clears c) c.self.invariant.0))
    (cut_of_same (row_of c.release_all.new.terms) _ _ (cuts_viewed c.clear-2.new.cuts.entries) ∙ cut_cleared _ _ _ _ _ _ _ (clears c) c.self.invariant.0
    ∙ ap (without_cuts (λ u. place_in (row_of c.self.inside.terms u) == c.args.context)) (sym (cut_of_same (row_of c.self.inside.terms) _ _ (cuts_viewed c.self.inside.cuts.entries))))
    (same_used c.self.inside.members c.clear.new.members c.clear.ensures.used)
    c.release_all.ensures.numbers.used
    (class_still c.release_all.ensures.numbers.class))

use Rattle.std.proofs.Common.{◌∙◌, sym, ap}
use Rattle.mg_model.specs.Board.{same_term}
use Rattle.mg_model.specs.Items.{without_cuts}
use Rattle.terminations.specs.Table.{row_of, cleared}
use Rattle.contexts.specs.Groups.{group_at, members_at}
use Rattle.contexts.specs.BoardValue.{board_of}
use Rattle.contexts.proofs.TieLemmas.{Leaves, tied_left, cut_left, same_boards, cut_of_same, cuts_viewed}
use Rattle.contexts.proofs.RowLemmas.{cleared_place, subtracted_one}
use Rattle.contexts.proofs.StockLemmas.{one_class_still, class_still, same_used}
use Rattle.contexts.proofs.board.Board.subtract.Goals as goal

leaves : (c : goal.After-release) → Leaves (row_of c.self.inside.terms) (row_of c.release.new.terms) (members_at c.self.inside.members) (members_at c.leave.new.members)
    (group_at c.self.inside.cuts.entries) (group_at c.forget.new.cuts.entries) c.args.t (cleared c.args.t (row_of c.self.inside.terms c.args.t)) c.args.context
unfolding board_of
leaves c = record {
  was = rw (← c.self.view_is) at c.requires.stands;
  place = cleared_place c.args.t _;
  rows_are = c.release.ensures.rows;
  members = c.leave.ensures.members;
  cuts = c.forget.ensures;
}

pub invariant_of-self : goal.invariant_of-self
invariant_of-self c = (tied_left _ _ _ _ _ _ _ _ _ (leaves c) c.self.invariant.0, one_class_still _ _ _ _ c.release.ensures.numbers.class c.leave.ensures.class c.self.invariant.1)

pub returns : goal.returns
unfolding board_of
returns c = rw (← c.self.view_is) (same_boards _ _
    (c.release.ensures.rows ∙ subtracted_one (row_of c.self.inside.terms) c.args.t (rw (← c.self.view_is) at c.requires.exists))
    (cut_of_same (row_of c.release.new.terms) _ _ (cuts_viewed c.forget.new.cuts.entries) ∙ cut_left _ _ _ _ _ _ _ _ _ (leaves c) c.self.invariant.0
    ∙ ap (without_cuts (λ u. same_term u c.args.t)) (sym (cut_of_same (row_of c.self.inside.terms) _ _ (cuts_viewed c.self.inside.cuts.entries))))
    (same_used c.self.inside.members c.leave.new.members c.leave.ensures.used)
    c.release.ensures.numbers.used
    (class_still c.release.ensures.numbers.class))

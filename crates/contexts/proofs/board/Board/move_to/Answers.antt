use Rattle.std.proofs.Common.{◌∙◌, IsTrue, sym, ap, refl, inl}
use Rattle.mg_model.specs.Items.{without_cuts}
use Rattle.mg_model.specs.Board.{same_term}
use Rattle.identifiers.specs.Stock.{is_held}
use Rattle.terminations.specs.Table.{row_of, left}
use Rattle.mg_model.specs.Board.{row_with}
use Rattle.contexts.specs.Groups.{group_at, members_at}
use Rattle.contexts.specs.Rows.{row_in}
use Rattle.contexts.specs.BoardValue.{board_of}
use Rattle.contexts.proofs.TieLemmas.{same_boards, cut_of_same, cuts_viewed}
use Rattle.contexts.proofs.RowLemmas.{row_with_twice}
use Rattle.contexts.proofs.MoveLemmas.{Moves, tied_moved, cut_moved, left_place}
use Rattle.contexts.proofs.StockLemmas.{one_class_still, class_still, same_used, one_used, used_already, held_iff}
use Rattle.contexts.proofs.board.Board.move_to.Goals as goal

pub place-requires-clause-exists : goal.place-requires-clause-exists
unfolding board_of
place-requires-clause-exists c = rw (← c.self.view_is) at c.requires.exists

pub enter-requires : goal.enter-requires
unfolding board_of
enter-requires c = inl ((held_iff (row_of c.self.inside.terms) c.self.inside.members (group_at c.self.inside.cuts.entries) c.self.invariant.0 c.args.context.0).1 (rw (← c.self.view_is) at c.requires.can_enter))

there : (c : goal.After-place) → IsTrue (is_held c.self.inside.members c.args.context.0)
unfolding board_of
there c = (held_iff (row_of c.self.inside.terms) c.self.inside.members (group_at c.self.inside.cuts.entries) c.self.invariant.0 c.args.context.0).1 (rw (← c.self.view_is) at c.requires.can_enter)

moves : (c : goal.After-place) → Moves (row_of c.self.inside.terms) (row_with (row_of c.self.inside.terms) c.args.t (left (row_of c.self.inside.terms c.args.t))) (row_of c.place.new.terms)
    (members_at c.self.inside.members) (members_at c.enter.new.members) (members_at c.leave.new.members) (group_at c.self.inside.cuts.entries) (group_at c.forget.new.cuts.entries) c.args.t
    (left (row_of c.self.inside.terms c.args.t)) (row_in c.args.context.0 c.args.settings.now (row_of c.self.inside.terms c.args.t)) c.args.from c.args.context.0
unfolding board_of
moves c = record {
  was = rw (← c.self.view_is) at c.requires.stands;
  other = c.requires.other;
  not_null = c.requires.to_context;
  first = left_place _;
  second = refl;
  between_is = refl;
  after_is = c.place.ensures.rows ∙ sym (row_with_twice (row_of c.self.inside.terms) c.args.t _ _);
  entered = rw c.in-Ok.is at c.enter.ensures.ok;
  left = c.leave.ensures.members;
  cuts = c.forget.ensures;
}

pub invariant_of-self-2 : goal.invariant_of-self-2
invariant_of-self-2 c = (
  tied_moved _ _ _ _ _ _ _ _ _ _ _ _ _ (moves c) c.self.invariant.0,
  one_class_still _ _ _ _ c.place.ensures.numbers.class (c.leave.ensures.class ∙ c.enter.ensures.class) c.self.invariant.1,
)

pub returns-clause-ok : goal.returns-clause-ok
unfolding board_of
returns-clause-ok c = rw (← c.self.view_is) (same_boards _ _
    c.place.ensures.rows
    (cut_of_same (row_of c.place.new.terms) _ _ (cuts_viewed c.forget.new.cuts.entries) ∙ cut_moved _ _ _ _ _ _ _ _ _ _ _ _ _ (moves c) c.self.invariant.0
    ∙ ap (without_cuts (same_term c.args.t)) (sym (cut_of_same (row_of c.self.inside.terms) _ _ (cuts_viewed c.self.inside.cuts.entries))))
    (same_used c.enter.new.members c.leave.new.members c.leave.ensures.used ∙ one_used c.self.inside.members c.enter.new.members c.args.context.0 (rw c.in-Ok.is at c.enter.ensures.used)
    ∙ used_already c.self.inside.members c.args.context.0 (there c))
    c.place.ensures.numbers.used
    (class_still c.place.ensures.numbers.class))

pub returns-in_default-clause-err : goal.returns-in_default-clause-err
unfolding board_of
returns-in_default-clause-err c = rw (← c.self.view_is) (same_boards _ _ refl refl (same_used c.self.inside.members c.enter.new.members (rw c.in_default.is at c.enter.ensures.err_used)) refl refl)

use Rattle.std.proofs.Common.{◌∙◌, sym, refl}
use Rattle.terminations.specs.Table.{row_of}
use Rattle.contexts.specs.Groups.{group_at, members_at}
use Rattle.contexts.specs.Rows.{row_in}
use Rattle.contexts.specs.BoardValue.{board_of}
use Rattle.contexts.proofs.StockLemmas.{can_enter, one_class_still, class_still, same_used, one_used}
use Rattle.contexts.proofs.TieLemmas.{Enters, tied_entered, cut_entered, same_boards, cut_of_same, cuts_viewed}
use Rattle.contexts.proofs.board.Board.enter.Goals as goal

pub enter-requires : goal.enter-requires
unfolding board_of
enter-requires c = can_enter (row_of c.self.inside.terms) c.self.inside.members (group_at c.self.inside.cuts.entries) c.self.invariant.0 c.args.context.0 (rw (← c.self.view_is) at c.requires.can_enter)

pub place-requires-clause-exists : goal.place-requires-clause-exists
unfolding board_of
place-requires-clause-exists c = rw (← c.self.view_is) at c.requires.exists

enters : (c : goal.After-place) → Enters (row_of c.self.inside.terms) (row_of c.place.new.terms) (members_at c.self.inside.members) (members_at c.enter.new.members)
    c.args.t (row_in c.args.context.0 c.args.settings.now (row_of c.self.inside.terms c.args.t)) c.args.context.0
unfolding board_of
enters c = record {
  was = rw (← c.self.view_is) at c.requires.free;
  not_null = c.requires.to_context;
  place = refl;
  rows_are = c.place.ensures.rows;
  members = rw c.in-Ok.is at c.enter.ensures.ok;
}

pub invariant_of-self-2 : goal.invariant_of-self-2
invariant_of-self-2 c = (tied_entered _ _ _ _ _ _ _ _ (enters c) c.self.invariant.0, one_class_still _ _ _ _ c.place.ensures.numbers.class c.enter.ensures.class c.self.invariant.1)

pub returns-clause-ok : goal.returns-clause-ok
unfolding board_of
returns-clause-ok c = rw (← c.self.view_is) (same_boards _ _ c.place.ensures.rows
    (cut_of_same (row_of c.place.new.terms) _ _ (cuts_viewed c.self.inside.cuts.entries) ∙ cut_entered _ _ _ _ _ _ _ _ (enters c) c.self.invariant.0
    ∙ sym (cut_of_same (row_of c.self.inside.terms) _ _ (cuts_viewed c.self.inside.cuts.entries)))
    (one_used c.self.inside.members c.enter.new.members c.args.context.0 (rw c.in-Ok.is at c.enter.ensures.used))
    c.place.ensures.numbers.used
    (class_still c.place.ensures.numbers.class))

pub returns-in_default-clause-err : goal.returns-in_default-clause-err
unfolding board_of
returns-in_default-clause-err c = rw (← c.self.view_is) (same_boards _ _ refl refl (same_used c.self.inside.members c.enter.new.members (rw c.in_default.is at c.enter.ensures.err_used)) refl refl)

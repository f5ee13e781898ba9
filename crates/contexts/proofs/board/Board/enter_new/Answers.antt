use Rattle.std.proofs.Common.{◌≡◌, ◌∙◌, Some, sym, ap, refl, map}
use Rattle.mg_names.specs.declared.identifiers.TermId.TheVariants.{Eph}
use Rattle.mg_model.specs.Board.{same_term, row_with, null_row}
use Rattle.mg_model.specs.Items.{without_cuts}
use Rattle.terminations.specs.Table.{row_of, used_of}
use Rattle.contexts.specs.Groups.{group_at, members_at}
use Rattle.contexts.specs.Rows.{row_in}
use Rattle.contexts.specs.BoardValue.{board_of, cuts_at, cut_of}
use Rattle.contexts.proofs.StockLemmas.{can_enter, one_class_still, class_still, same_used, one_used}
use Rattle.contexts.proofs.TieLemmas.{Enters, tied_entered, cut_entered, same_boards, cut_of_same, cuts_viewed}
use Rattle.contexts.proofs.CutLemmas.{cut_of_none}
use Rattle.contexts.proofs.MoveLemmas.{CreatedAt, created_at, changed_new, rows_back, used_back}
use Rattle.contexts.proofs.board.Board.enter_new.Goals as goal

pub enter-requires : goal.enter-requires
unfolding board_of
enter-requires c = can_enter (row_of c.self.inside.terms) c.self.inside.members (group_at c.self.inside.cuts.entries) c.self.invariant.0 c.args.context.0 (rw (← c.self.view_is) at c.requires.can_enter)

made : (c : goal.After-place) → CreatedAt c.self.inside.terms c.create.new.self c.in-Ok-Eph.number
made c = created_at c.self.inside.terms c.create.new.self c.in-Ok-Eph.field-0 c.in-Ok-Eph.number c.in-Ok-Eph.field-0-is c.in-Ok-Eph.ensures.created

rows_after : (c : goal.After-place) → row_of c.place.new.terms ≡ row_with (row_of c.self.inside.terms) (Eph c.in-Ok-Eph.number) (row_in c.args.context.0 c.args.settings.now (Some null_row))
rows_after c = changed_new (row_of c.self.inside.terms) (row_of c.create.new.self) (row_of c.place.new.terms) (Eph c.in-Ok-Eph.number) c.args.context.0 c.args.settings.now
    (made c).rows c.place.ensures.rows

enters : (c : goal.After-place) → Enters (row_of c.self.inside.terms) (row_of c.place.new.terms) (members_at c.self.inside.members) (members_at c.enter.new.members)
    (Eph c.in-Ok-Eph.number) (row_in c.args.context.0 c.args.settings.now (Some null_row)) c.args.context.0
enters c = record {
  was = rw (made c).absent refl;
  not_null = c.requires.to_context;
  place = refl;
  rows_are = rows_after c;
  members = rw c.in-Ok.is at c.enter.ensures.ok;
}

pub returns-in_default-enter-clause-err : goal.returns-in_default-enter-clause-err
unfolding board_of
returns-in_default-enter-clause-err c =
    let new = created_at c.self.inside.terms c.create.new.self c.in-Ok-Eph.field-0 c.in-Ok-Eph.number c.in-Ok-Eph.field-0-is c.in-Ok-Eph.ensures.created in
    let rows = rows_back (row_of c.self.inside.terms) (row_of c.create.new.self) (row_of c.withdraw.new.self) c.in-Ok-Eph.number new.absent new.rows c.withdraw.ensures.rows in
    rw (← c.self.view_is) (same_boards _ _ rows (λ i. cut_of (rows i) (cuts_at (map (λ e. (e.0, e.1.items)) c.self.inside.cuts.entries)))
    (same_used c.self.inside.members c.enter.new.members (rw c.in_default-enter.is at c.enter.ensures.err_used))
    (used_back (used_of c.self.inside.terms) (used_of c.create.new.self) (used_of c.withdraw.new.self) c.in-Ok-Eph.number new.fresh new.used c.withdraw.ensures.used)
    (class_still (c.withdraw.ensures.class ∙ new.class)))

pub invariant_of-self-2 : goal.invariant_of-self-2
invariant_of-self-2 c = (tied_entered _ _ _ _ _ _ _ _ (enters c) c.self.invariant.0, one_class_still _ _ _ _ (c.place.ensures.numbers.class ∙ (made c).class) c.enter.ensures.class c.self.invariant.1)

pub returns-clause-ok : goal.returns-clause-ok
unfolding board_of
returns-clause-ok c = rw (← c.self.view_is) record {
  fits = (made c).fits;
  fresh = (made c).fresh;
  of_class = (made c).of_class;
  board = same_boards _ _ (rows_after c)
      (cut_of_same (row_of c.place.new.terms) _ _ (cuts_viewed c.self.inside.cuts.entries) ∙ cut_entered _ _ _ _ _ _ _ _ (enters c) c.self.invariant.0
      ∙ cut_of_none (row_of c.self.inside.terms) _ (group_at c.self.inside.cuts.entries) c.self.invariant.0 (Eph c.in-Ok-Eph.number) (enters c).was
      ∙ ap (without_cuts (same_term (Eph c.in-Ok-Eph.number))) (sym (cut_of_same (row_of c.self.inside.terms) _ _ (cuts_viewed c.self.inside.cuts.entries))))
      (one_used c.self.inside.members c.enter.new.members c.args.context.0 (rw c.in-Ok.is at c.enter.ensures.used))
      (c.place.ensures.numbers.used ∙ (made c).used)
      (class_still (c.place.ensures.numbers.class ∙ (made c).class));
}

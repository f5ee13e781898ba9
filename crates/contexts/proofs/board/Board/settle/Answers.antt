use Rattle.std.proofs.Common.{ap, map, ◌∙◌}
use Rattle.contexts.specs.Groups.{items_in, group_at}
use Rattle.contexts.specs.BoardValue.{board_of, cuts_at, cut_of}
use Rattle.contexts.proofs.StockLemmas.{one_class_still, class_still, used_at, held_iff, tied_same}
use Rattle.terminations.specs.Table.{row_of}
use Rattle.contexts.proofs.board.Board.settle.Goals as goal

pub invariant_of-self : goal.invariant_of-self
invariant_of-self c = (
  tied_same _ _ _ _ _ c.settle.ensures.rows (λ d. ap items_in (c.settle-2.ensures.values d)) c.self.invariant.0,
  one_class_still _ _ _ _ c.settle.ensures.class c.settle-2.ensures.class c.self.invariant.1,
)

pub returns : goal.returns
unfolding board_of
returns c = rw (← c.self.view_is) (record {
  row = c.settle.ensures.rows;
  cut = λ i. cut_of (c.settle.ensures.rows i) (cuts_at (map (λ e. (e.0, e.1.items)) c.self.inside.cuts.entries));
  class = class_still c.settle.ensures.class;
  contexts = λ n.
      let held = held_iff (row_of c.self.inside.terms) c.self.inside.members (group_at c.self.inside.cuts.entries) c.self.invariant.0 n in
      let used = used_at c.settle-2.new.self n ∙ c.settle-2.ensures.used n in
      (λ h. held.0 (rw used at h), λ h. rw used (held.1 h));
  ephemerals = λ k. ap (λ used. used k) c.settle.ensures.used;
})

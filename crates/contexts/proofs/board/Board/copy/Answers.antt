use Rattle.std.proofs.Common.{◌∙◌, ℕ, List, Option, sym, subst, map}
use Rattle.mg_names.specs.declared.identifiers.TermId.{TermId}
use Rattle.mg_model.specs.declared.rows.Row.{Row}
use Rattle.identifiers.specs.declared.class.Class.{Class}
use Rattle.terminations.specs.Table.{row_of}
use Rattle.contexts.specs.Groups.{group_at, members_at}
use Rattle.contexts.specs.declared.cuts.Cut.{Cut}
use Rattle.contexts.specs.BoardValue.{IsOneClass, IsTied, board_of, cuts_at, cut_of}
use Rattle.contexts.proofs.StockLemmas.{class_still, same_used}
use Rattle.contexts.proofs.TieLemmas.{same_boards, cut_of_same, cuts_viewed}
use Rattle.contexts.proofs.board.Board.copy.Goals as goal

-- rows, members and cuts are tied as those that they were copied from
pub invariant_of-result : goal.invariant_of-result
invariant_of-result c = (
  subst (λ (rows : TermId → Option Row). IsTied rows (members_at c.in_ok-members.members) (group_at c.in_ok-cuts.cuts.entries)) (sym c.in_ok-terms.ensures.rows)
      (subst (λ (members : ℕ → Option (List TermId)). IsTied (row_of c.self.inside.terms) members (group_at c.in_ok-cuts.cuts.entries)) (λ i n. sym (c.in_ok-members.ensures.members n) i)
      (subst (λ (cuts : ℕ → Option (List Cut)). IsTied (row_of c.self.inside.terms) (members_at c.self.inside.members) cuts) (λ i n. sym (c.in_ok-cuts.ensures n) i) c.self.invariant.0)),
  subst (λ (k : Class). IsOneClass k c.in_ok-members.members.class) (sym c.in_ok-terms.ensures.numbers.class)
      (subst (λ (k : Class). IsOneClass c.self.inside.terms.ephemerals.class k) (sym c.in_ok-members.ensures.class) c.self.invariant.1),
)

pub returns : goal.returns
unfolding board_of
returns c = rw (← c.self.view_is) (same_boards _ _ c.in_ok-terms.ensures.rows
    ((λ i. cut_of (c.in_ok-terms.ensures.rows i) (cuts_at (map (λ e. (e.0, e.1.items)) c.in_ok-cuts.cuts.entries)))
    ∙ cut_of_same (row_of c.self.inside.terms) _ _ (λ d. cuts_viewed c.in_ok-cuts.cuts.entries d ∙ c.in_ok-cuts.ensures d ∙ sym (cuts_viewed c.self.inside.cuts.entries d)))
    (same_used c.self.inside.members c.in_ok-members.members c.in_ok-members.ensures.used)
    c.in_ok-terms.ensures.numbers.used
    (class_still c.in_ok-terms.ensures.numbers.class))

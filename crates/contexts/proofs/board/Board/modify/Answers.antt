use Rattle.std.proofs.Common.{◌≡◌, ◌∙◌, sym, refl}
use Rattle.terminations.specs.Table.{row_of}
use Rattle.contexts.specs.Groups.{group_at}
use Rattle.contexts.specs.BoardValue.{board_of}
use Rattle.mg_model.specs.Board.{place_in}
use Rattle.mg_names.specs.declared.identifiers.TermId.{TermId}
use Rattle.contexts.proofs.TieLemmas.{tied_within, cut_within, same_boards, place_kept, cut_of_same, cuts_viewed}
use Rattle.contexts.proofs.StockLemmas.{one_class_still, class_still}
use Rattle.contexts.proofs.board.Board.modify.Goals as goal

pub apply-requires-clause-exists : goal.apply-requires-clause-exists
unfolding board_of
apply-requires-clause-exists c = rw (← c.self.view_is) at c.requires.exists

kept : (c : goal.After-apply) (u : TermId) → place_in (row_of c.apply.new.terms u) ≡ place_in (row_of c.self.inside.terms u)
kept c u = rw c.apply.ensures.rows (place_kept (row_of c.self.inside.terms) c.args.t _ refl u)

pub invariant_of-self : goal.invariant_of-self
invariant_of-self c = (tied_within (row_of c.self.inside.terms) (row_of c.apply.new.terms) _ _ (kept c) c.self.invariant.0, one_class_still _ _ _ _ c.apply.ensures.numbers.class refl c.self.invariant.1)

pub returns : goal.returns
unfolding board_of
returns c = rw (← c.self.view_is) (same_boards _ _ c.apply.ensures.rows
    (cut_of_same (row_of c.apply.new.terms) _ _ (cuts_viewed c.self.inside.cuts.entries) ∙ cut_within (row_of c.self.inside.terms) (row_of c.apply.new.terms) (group_at c.self.inside.cuts.entries) (kept c)
    ∙ sym (cut_of_same (row_of c.self.inside.terms) _ _ (cuts_viewed c.self.inside.cuts.entries)))
    refl c.apply.ensures.numbers.used (class_still c.apply.ensures.numbers.class))

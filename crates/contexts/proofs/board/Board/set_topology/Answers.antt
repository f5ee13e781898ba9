use Rattle.std.proofs.Common.{Bool, ◌∙◌, sym, ap, refl}
use Rattle.mg_names.specs.declared.identifiers.TermId.{TermId}
use Rattle.std.specs.Prelude.{not}
use Rattle.mg_model.specs.Items.{with_cut, first_receives, second_receives}
use Rattle.terminations.specs.Table.{row_of}
use Rattle.contexts.specs.Groups.{group_at}
use Rattle.contexts.specs.BoardValue.{board_of}
use Rattle.contexts.proofs.TieLemmas.{same_boards, cut_of_same, cuts_viewed}
use Rattle.contexts.proofs.CutLemmas.{Sets, cut_set, tied_set}
use Rattle.contexts.proofs.board.Board.set_topology.Goals as goal

pub returns-in_default-clause-err : goal.returns-in_default-clause-err
unfolding board_of
returns-in_default-clause-err c = rw (← c.self.view_is) (same_boards _ _ refl
    (cut_of_same (row_of c.self.inside.terms) _ _ (λ d. cuts_viewed c.set.new.cuts.entries d ∙ (rw c.in_default.is at c.set.ensures.err) d ∙ sym (cuts_viewed c.self.inside.cuts.entries d)))
    refl refl refl)

pub invariant_of-self-2 : goal.invariant_of-self-2
unfolding board_of
invariant_of-self-2 c =
    let sets : Sets (row_of c.self.inside.terms) (group_at c.self.inside.cuts.entries) (group_at c.set.new.cuts.entries) c.args.t c.args.u (not (second_receives c.args.topology)) (not (first_receives c.args.topology)) c.args.context = record {
      not_null = c.requires.not_null;
      first = rw (← c.self.view_is) at c.requires.first;
      second = rw (← c.self.view_is) at c.requires.second;
      differ = c.requires.differ;
      cuts = rw (c.in-Ok.is, c.cuts_forward.ensures, c.cuts_backward.ensures) at c.set.ensures.ok;
    } in
    (tied_set _ _ _ _ _ _ _ _ _ sets c.self.invariant.0, c.self.invariant.1)

pub returns-clause-ok : goal.returns-clause-ok
unfolding board_of
returns-clause-ok c =
    let sets : Sets (row_of c.self.inside.terms) (group_at c.self.inside.cuts.entries) (group_at c.set.new.cuts.entries) c.args.t c.args.u (not (second_receives c.args.topology)) (not (first_receives c.args.topology)) c.args.context = record {
      not_null = c.requires.not_null;
      first = rw (← c.self.view_is) at c.requires.first;
      second = rw (← c.self.view_is) at c.requires.second;
      differ = c.requires.differ;
      cuts = rw (c.in-Ok.is, c.cuts_forward.ensures, c.cuts_backward.ensures) at c.set.ensures.ok;
    } in
    rw (← c.self.view_is) (same_boards _ _ refl
    (cut_of_same (row_of c.self.inside.terms) _ _ (cuts_viewed c.set.new.cuts.entries) ∙ cut_set _ _ _ _ _ _ _ _ sets
    ∙ ap (λ (cut : TermId → TermId → Bool). with_cut (with_cut cut c.args.t c.args.u (not (second_receives c.args.topology))) c.args.u c.args.t (not (first_receives c.args.topology))) (sym (cut_of_same (row_of c.self.inside.terms) _ _ (cuts_viewed c.self.inside.cuts.entries))))
    refl refl refl)

use Rattle.std.proofs.Common.{◌≡◌, ◌∙◌, sym, ap, ℕ, List, Option}
use Rattle.mg_model.specs.Board.{place_in}
use Rattle.terminations.specs.Table.{row_of}
use Rattle.contexts.specs.declared.cuts.Cut.{Cut}
use Rattle.contexts.specs.Groups.{group_at, has_cut}
use Rattle.contexts.specs.TiedBoard.{board_of}
use Rattle.contexts.proofs.TieLemmas.{cuts_viewed}
use Rattle.contexts.proofs.wiring.Wiring.is_cut.Goals as goal

pub returns : goal.returns
unfolding board_of
returns c =
    let place : c.place_of.result ≡ place_in (row_of c.self.inside.terms.now c.args.from) = rw (← c.self.view_is) at c.place_of.ensures in
    rw (← c.self.view_is) (c.is_cut.ensures
    ∙ ap (λ (n : ℕ). has_cut (group_at c.self.inside.cuts.now.entries n) c.args.from c.args.to) place
    ∙ ap (λ (g : Option (List Cut)). has_cut g c.args.from c.args.to) (sym (cuts_viewed c.self.inside.cuts.now.entries (place_in (row_of c.self.inside.terms.now c.args.from)))))

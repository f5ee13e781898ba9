use Rattle.std.proofs.Common.{◌∙◌, ap, subst, sym}
use Rattle.mg_model.specs.Board.{Board}
use Rattle.mg_model.specs.Items.{Applies}
use Rattle.contexts.specs.BoardValue.{board_of}
use Rattle.line_events.specs.Rows.{row_of}
use Rattle.requests.specs.Connected.{board_in, IsMatched}
use Rattle.requests.proofs.CommandLemmas.{matched}
use Rattle.requests.proofs.connections.Connections.carry_out.Goals as goal

pub carry_out-requires : goal.carry_out-requires
carry_out-requires c = λ code applies.
    c.requires code (subst (λ (b : Board). Applies b c.args.item.now code) (ap board_of c.deref_mut.ensures.value ∙ ap board_in c.self.view_is) applies)

pub invariant_of-self : goal.invariant_of-self
invariant_of-self c =
    matched _ _ _ c.carry_out.result (row_of c.self.inside.lines.value) c.carry_out.ensures.ok c.carry_out.ensures.err
    (subst (λ b. IsMatched (board_of b) (row_of c.self.inside.lines.value)) (sym c.deref_mut.ensures.value) c.self.invariant)

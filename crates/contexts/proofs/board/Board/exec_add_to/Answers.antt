use Rattle.std.proofs.Common.{◌≡◌, rules, false, subst, inl}
use Rattle.mg_names.specs.declared.codes.Code.TheVariants.{UnknownContext}
use Rattle.mg_model.specs.Board.{Board}
use Rattle.contexts.specs.BoardValue.{board_of}
use Rattle.contexts.specs.Steps.{IsAdded, entered}
use Rattle.terminations.specs.Table.{row_of}
use Rattle.contexts.proofs.StockLemmas.{not_missing, held_iff, used_already}
use Rattle.contexts.proofs.AddLemmas.{can_be_added, context_named, entered_if, executed_add, entered_there, is_not_choose}
use Rattle.contexts.proofs.board.Board.exec_add_to.Goals as goal

pub add_to-requires-clause-to_context : goal.add_to-requires-clause-to_context
add_to-requires-clause-to_context c = context_named (board_of c.args.self.now) c.args.context c.args.added.now c.args.settings.now c.requires.legal c.requires.named

pub add_to-requires-clause-can : goal.add_to-requires-clause-can
add_to-requires-clause-can c = can_be_added (board_of c.args.self.now) c.args.context c.args.added.now c.args.settings.now c.requires.legal

pub add_to-requires-clause-can_enter : goal.add_to-requires-clause-can_enter
unfolding board_of
add_to-requires-clause-can_enter c =
    rw (← c.self.view_is) (inl (not_missing _ c.self.inside.members _ c.self.invariant.0 c.args.context.0 (λ no. c.requires.legal UnknownContext (c.requires.named, λ there. no (rw (← c.self.view_is) at there)))))

pub returns-clause-ok : goal.returns-clause-ok
unfolding board_of
returns-clause-ok c =
    let exists = not_missing (row_of c.self.inside.terms) c.self.inside.members _ c.self.invariant.0 c.args.context.0 (λ no. c.requires.legal UnknownContext (c.requires.named, λ there. no (rw (← c.self.view_is) at there))) in
    let held = (held_iff (row_of c.self.inside.terms) c.self.inside.members _ c.self.invariant.0 c.args.context.0).1 exists in
    let same : entered (board_of c.args.self.now) c.args.context.0 ≡ entered_if (board_of c.args.self.now) false 0 =
    entered_there (board_of c.args.self.now) c.args.context.0 (rw (← c.self.view_is) (used_already c.self.inside.members c.args.context.0 held)) in
    rw c.created.ensures (executed_add (board_of c.args.self.now) (board_of c.add_to.new.self) c.args.context c.args.added.now c.args.settings.now 0 c.in-Ok.number false
    (is_not_choose c.args.context.0 c.requires.named)
    (subst (λ (b : Board). IsAdded b (board_of c.add_to.new.self) c.args.context.0 c.args.added.now c.args.settings.now c.in-Ok.number) same (rw c.in-Ok.is at c.add_to.ensures.ok))
    (λ h. absurd (search rules)) c.requires.legal)

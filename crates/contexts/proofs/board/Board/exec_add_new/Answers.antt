use Rattle.std.proofs.Common.{true, inr}
use Rattle.identifiers.specs.Stock.{IsGiven}
use Rattle.contexts.specs.Groups.{items_of}
use Rattle.contexts.specs.BoardValue.{board_of}
use Rattle.contexts.proofs.StockLemmas.{given_to_show, is_new}
use Rattle.contexts.proofs.AddLemmas.{IsNew, can_be_added, executed_add, is_choose}
use Rattle.contexts.proofs.board.Board.exec_add_new.Goals as goal

pub add_to-requires-clause-can : goal.add_to-requires-clause-can
add_to-requires-clause-can c = can_be_added (board_of c.args.self.now) c.args.context c.args.added.now c.args.settings.now c.requires.legal

pub add_to-requires-clause-can_enter : goal.add_to-requires-clause-can_enter
add_to-requires-clause-can_enter c = rw (← c.self.view_is) (inr (given_to_show c.self.inside.members c.in-Ok.target (rw c.in-Ok.is at c.next.ensures.next)))

pub returns-clause-ok : goal.returns-clause-ok
unfolding board_of
returns-clause-ok c =
    let given : IsGiven (items_of c.self.inside.members) c.in-Ok.target = given_to_show c.self.inside.members c.in-Ok.target (rw c.in-Ok.is at c.next.ensures.next) in
    let new : IsNew (board_of c.args.self.now) c.in-Ok.target = rw (← c.self.view_is) (is_new c.self.inside.terms.ephemerals.class (items_of c.self.inside.members) c.in-Ok.target c.self.invariant.1 given) in
    rw c.created.ensures (executed_add (board_of c.args.self.now) (board_of c.add_to.new.self) c.args.context c.args.added.now c.args.settings.now c.in-Ok.target c.in-Ok-add_to.number true
    (is_choose c.args.context.0 c.requires.chooses) (rw c.in-Ok-add_to.is at c.add_to.ensures.ok) (λ h. new) c.requires.legal)

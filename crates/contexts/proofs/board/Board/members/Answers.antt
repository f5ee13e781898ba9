use Rattle.contexts.specs.BoardValue.{board_of}
use Rattle.contexts.proofs.board.Board.members.Goals as goal

pub returns-clause-exactly : goal.returns-clause-exactly
unfolding board_of
returns-clause-exactly c t = rw (c.of_context.ensures, ← c.self.view_is) (c.self.invariant.0.stands c.args.context.0 t)

pub returns-clause-once : goal.returns-clause-once
returns-clause-once c = rw c.of_context.ensures (c.self.invariant.0.once c.args.context.0)

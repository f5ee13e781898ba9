use Rattle.contexts.specs.BoardValue.{board_of}
use Rattle.contexts.proofs.TieLemmas.{exists_iff}
use Rattle.contexts.proofs.board.Board.has_context.Goals as goal

pub returns : goal.returns
unfolding board_of
returns c = rw (c.has_any.ensures, ← c.self.view_is) (exists_iff _ _ _ c.self.invariant.0 c.args.context)

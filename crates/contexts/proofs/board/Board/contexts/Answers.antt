use Rattle.contexts.specs.BoardValue.{board_of}
use Rattle.contexts.proofs.CountLemmas.{counts}
use Rattle.contexts.proofs.board.Board.contexts.Goals as goal

pub returns : goal.returns
unfolding board_of
returns c = rw (← c.self.view_is) (counts _ c.self.inside.members _ c.self.invariant.0 c.len.result c.len.ensures)

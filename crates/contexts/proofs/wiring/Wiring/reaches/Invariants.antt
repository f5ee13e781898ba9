use Rattle.std.proofs.Common.{◌-◌, length}
use Rattle.contexts.specs.Found.{IsClosed}
use Rattle.contexts.specs.TiedBoard.{board_of}
use Rattle.contexts.proofs.wiring.Wiring.reaches.Given as goal

abbrev pub invariant-loop-number : goal.invariant-loop-number
invariant-loop-number l = IsClosed (board_of l.self) l.from l.to l.found

abbrev pub decreases-loop-number : goal.decreases-loop-number
decreases-loop-number l = 4096 - length l.found.done

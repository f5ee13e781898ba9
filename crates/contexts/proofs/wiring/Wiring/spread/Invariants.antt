use Rattle.std.proofs.Common.{take}
use Rattle.contexts.specs.TiedBoard.{board_of}
use Rattle.contexts.proofs.FoundLemmas.{IsSpreadBy}
use Rattle.contexts.proofs.wiring.Wiring.spread.Given as goal

-- what the terminations that were looked at add
abbrev pub invariant-loop-t : goal.invariant-loop-t
invariant-loop-t l = IsSpreadBy (board_of l.self) l.from (take l.t-index l.t-items) l.initial.found l.found

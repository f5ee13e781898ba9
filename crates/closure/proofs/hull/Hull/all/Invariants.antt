-- It holds of the configurations so far.
use Rattle.std.proofs.Common.{true, take}
use Rattle.std.specs.Fn.{FnReturnsAt}
use Rattle.std.specs.List.{All}
use Rattle.closure.proofs.hull.Hull.all.Given as goal

abbrev pub invariant-loop-config : goal.invariant-loop-config
invariant-loop-config g l = All (λ config. FnReturnsAt g.F.Fn l.test config true) (take l.config-index l.config-items)

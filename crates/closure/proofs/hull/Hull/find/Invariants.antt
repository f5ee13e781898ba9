-- It holds of none of the configurations so far.
use Rattle.std.proofs.Common.{false, take}
use Rattle.std.specs.Fn.{FnReturnsAt}
use Rattle.std.specs.List.{All}
use Rattle.closure.proofs.hull.Hull.find.Given as goal

abbrev pub invariant-loop-config : goal.invariant-loop-config
invariant-loop-config g l = All (λ config. FnReturnsAt g.F.Fn l.test config false) (take l.config-index l.config-items)

-- What the function gives of the configurations so far.
use Rattle.std.proofs.Common.{take}
use Rattle.std.specs.Fn.{FnReturnsAt}
use Rattle.std.specs.List.{AllZip}
use Rattle.closure.proofs.hull.Hull.map.Given as goal

abbrev pub invariant-loop-config : goal.invariant-loop-config
invariant-loop-config g l = AllZip (FnReturnsAt g.F.Fn l.given) (take l.config-index l.config-items) l.made

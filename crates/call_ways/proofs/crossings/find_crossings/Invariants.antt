-- Of so many arrows it was told, and the others are left.
use Rattle.std.proofs.Common.{drop}
use Rattle.call_ways.proofs.GoneOver.{AreSoFar}
use Rattle.call_ways.proofs.crossings.find_crossings.Given as goal

abbrev pub invariant-loop-arrow : goal.invariant-loop-arrow
invariant-loop-arrow l = AreSoFar l.script l.reached l.each (drop l.arrow-index l.each) l.list.items

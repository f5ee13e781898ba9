-- What was found so far, with what is picked of what is left, is what is picked of all.
use Rattle.std.proofs.Common.{drop}
use Rattle.call_ways.proofs.Picked.{ArePickedWith}
use Rattle.call_ways.proofs.warnings.find_warnings.Given as goal

abbrev pub invariant-loop-warning : goal.invariant-loop-warning
invariant-loop-warning l =
    ArePickedWith l.script l.cert l.warning-items (drop l.warning-index l.warning-items) l.found.items

-- None of the entries so far has its points.
use Rattle.call_ways.proofs.Below.{NoneBelow}
use Rattle.call_ways.specs.Warnings.{IsHeldBy}
use Rattle.call_ways.proofs.holders.find_holder.Given as goal

abbrev pub invariant-loop-other : goal.invariant-loop-other
invariant-loop-other l = NoneBelow (IsHeldBy l.cert l.place) l.other

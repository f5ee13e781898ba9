-- So many sets were made.
use Rattle.call_ways.proofs.FateSets.{AreMade}
use Rattle.call_ways.proofs.fate_sets.joined.Given as goal

abbrev pub invariant-loop-place : goal.invariant-loop-place
invariant-loop-place l = AreMade l.sets l.fates l.joined.items l.place

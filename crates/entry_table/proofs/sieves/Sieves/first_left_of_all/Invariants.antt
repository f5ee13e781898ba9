-- No list of the groups so far is left.
use Rattle.entry_table.proofs.LeftLemmas.{NoneBefore}
use Rattle.entry_table.proofs.sieves.Sieves.first_left_of_all.Given as goal

abbrev pub invariant-loop-place : goal.invariant-loop-place
invariant-loop-place l = NoneBefore l.self l.configs l.place

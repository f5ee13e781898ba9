-- The lines so far.
use Rattle.check_facts.specs.Forgotten.{AreTelephonesBelow}
use Rattle.check_facts.proofs.telephones.find_telephones.Given as goal

abbrev pub invariant-loop-place : goal.invariant-loop-place
invariant-loop-place l = AreTelephonesBelow l.script l.cert l.place l.list.items

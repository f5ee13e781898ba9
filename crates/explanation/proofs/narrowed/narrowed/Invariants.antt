-- What was found has each configuration so far that the entry has.
use Rattle.explanation.proofs.Narrowing.{HoldsBelow}
use Rattle.explanation.proofs.narrowed.narrowed.Given as goal

abbrev pub invariant-loop-config : goal.invariant-loop-config
invariant-loop-config l = HoldsBelow l.entry l.configs l.found l.config-index

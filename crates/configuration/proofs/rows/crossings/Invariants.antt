-- The bytes that were put are right.
use Rattle.configuration.specs.Config.{configuration_of}
use Rattle.configuration.proofs.RowLoops.{IsCrossingsBelow}
use Rattle.configuration.proofs.rows.crossings.Given as goal

abbrev pub invariant-loop-source : goal.invariant-loop-source
invariant-loop-source l = IsCrossingsBelow (configuration_of l.config) l.all l.source

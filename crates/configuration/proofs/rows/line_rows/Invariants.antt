-- The bytes that were put are right.
use Rattle.configuration.specs.Config.{configuration_of}
use Rattle.configuration.proofs.RowLoops.{IsRowsBelow}
use Rattle.configuration.proofs.rows.line_rows.Given as goal

abbrev pub invariant-loop-source : goal.invariant-loop-source
invariant-loop-source l = IsRowsBelow (configuration_of l.config) l.rows l.source

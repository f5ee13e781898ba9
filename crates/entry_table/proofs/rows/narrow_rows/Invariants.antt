-- The rows so far are narrowed, and the rest are as they were.
use Rattle.entry_table.proofs.RowLemmas.{AreNarrowedBelow}
use Rattle.entry_table.proofs.rows.narrow_rows.Given as goal

abbrev pub invariant-loop-number : goal.invariant-loop-number
invariant-loop-number l = AreNarrowedBelow l.rows l.initial.rows l.members l.allowed l.number

-- What is found with the rows that are left is what is found with all.
use Rattle.std.proofs.Common.{◌≡◌, drop}
use Rattle.certificate.specs.FoundRows.{with_rows}
use Rattle.certificate.proofs.by_slot.BySlot.fill.Given as goal

abbrev pub invariant-loop-row : goal.invariant-loop-row
invariant-loop-row g l =
    with_rows (g.V.Vocabulary.named l.names) l.self (drop l.row-index l.rows)
    ≡ with_rows (g.V.Vocabulary.named l.names) l.initial.self l.rows

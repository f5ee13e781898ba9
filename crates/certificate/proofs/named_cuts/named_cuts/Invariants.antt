-- What was found so far is what the rows so far name.
use Rattle.certificate.specs.FoundRows.{cut_row}
use Rattle.certificate.proofs.Each.{IsReadTo}
use Rattle.certificate.proofs.named_cuts.named_cuts.Given as goal

abbrev pub invariant-loop-row : goal.invariant-loop-row
invariant-loop-row l = IsReadTo (cut_row l.script) l.rows l.row-index l.found.items

-- What was kept so far is what is to be kept of the keys so far.
use Rattle.entry_table.specs.Shown.{shown_all}
use Rattle.certificate.proofs.VariedLemmas.{IsKeptTo}
use Rattle.certificate.proofs.varied.varied.Given as goal

abbrev pub invariant-loop-key : goal.invariant-loop-key
invariant-loop-key l = IsKeptTo l.script l.entry l.keys l.key-index (shown_all l.found.items)

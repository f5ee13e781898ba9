-- What was read so far is the outlines of the entries so far.
use Rattle.certificate.specs.Outlines.{outline_meant}
use Rattle.certificate.proofs.Each.{IsReadTo}
use Rattle.certificate.proofs.outline.outlines.Given as goal

abbrev pub invariant-loop-entry : goal.invariant-loop-entry
invariant-loop-entry l = IsReadTo (outline_meant l.script) l.entries l.entry-index l.found.items

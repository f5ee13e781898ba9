-- What was read so far is what the entries so far mean.
use Rattle.certificate.specs.Certificate.{listed_meant}
use Rattle.certificate.proofs.Each.{IsReadTo}
use Rattle.certificate.proofs.draft.drafts.Given as goal

abbrev pub invariant-loop-entry : goal.invariant-loop-entry
invariant-loop-entry l = IsReadTo (listed_meant l.script) l.entries l.entry-index l.found.items

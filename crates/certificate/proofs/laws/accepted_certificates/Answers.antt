-- The law.
use Rattle.certificate.proofs.AcceptedEntries.{accepted_entries}
use Rattle.certificate.proofs.laws.accepted_certificates.Goals as goal

pub returns : goal.returns
returns c = accepted_entries

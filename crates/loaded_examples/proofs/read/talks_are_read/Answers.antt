-- Both are computed.
use Rattle.loaded_examples.proofs.CertificatesRead.{reachable_read}
use Rattle.loaded_examples.proofs.ScriptsRead.{calling_read}
use Rattle.loaded_examples.proofs.read.talks_are_read.Goals as goal

pub returns : goal.returns
returns c = record { reads = calling_read; lists = reachable_read }

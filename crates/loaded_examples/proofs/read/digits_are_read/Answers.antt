-- Both are computed.
use Rattle.loaded_examples.proofs.CertificatesRead as certificates
use Rattle.loaded_examples.proofs.ScriptsRead as scripts
use Rattle.loaded_examples.proofs.read.digits_are_read.Goals as goal

pub returns : goal.returns
returns c = record { reads = scripts.dials_read; lists = certificates.dials_read }

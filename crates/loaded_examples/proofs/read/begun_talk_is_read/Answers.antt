-- Both are computed.
use Rattle.loaded_examples.proofs.CertificatesRead as certificates
use Rattle.loaded_examples.proofs.ScriptsRead as scripts
use Rattle.loaded_examples.proofs.read.begun_talk_is_read.Goals as goal

pub returns : goal.returns
returns c = record { reads = scripts.renewing_read; lists = certificates.renewing_read }

-- Documents that were read are as their readers accept them.
use Rattle.composition.proofs.verdict.read_documents.Goals as goal

pub returns : goal.returns
returns c =
    let accepted = c.accepted_scripts.ensures c.args.script.now c.in_ok-script.script c.in_ok-script.ensures.reads in
    let listed = c.accepted_certificates.ensures c.in_ok-script.script accepted.0 c.args.certificate.now c.in_ok-cert.cert c.in_ok-cert.ensures in
    (record { reads = c.in_ok-script.ensures.reads; lists = c.in_ok-cert.ensures }, (accepted.0, accepted.1, listed))

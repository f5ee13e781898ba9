-- The line is a yes, since the promise over runs has what the checker says: the readers' law, the example, and the count.
use Rattle.mg_examples.specs.Dials.{dial_entries, dials}
use Rattle.loaded_examples.specs.Certificates as certificates
use Rattle.loaded_examples.specs.Scripts as scripts
use Rattle.loaded_examples.proofs.CertificatesRead as listed
use Rattle.loaded_examples.proofs.Counted.{dials_counted}
use Rattle.loaded_examples.proofs.OneLine.{yes_told}
use Rattle.loaded_examples.proofs.ScriptsRead.{dials_read}
use Rattle.loaded_examples.proofs.told.digits_are_told.Goals as goal

pub returns : goal.returns
returns c =
    let few = c.accepted_scripts.ensures scripts.dials dials dials_read in
    let example = c.digits_are_not_enough.ensures in
    yes_told scripts.dials certificates.dials dials dial_entries (record { reads = dials_read; lists = listed.dials_read }) 11 (record {
      accepted = example.accepted;
      few_commands = few.1;
      listed = example.listed;
      none_broken = example.none_broken;
      safe = c.every_run_is_good.ensures dials dial_entries example.accepted example.listed example.none_broken;
      counted = dials_counted;
    })

-- The line is a yes, since the promise over runs has what the checker says: the readers' law, the example, and the count.
use Rattle.mg_examples.specs.BegunTalk.{renewing, renewing_entries}
use Rattle.loaded_examples.specs.Certificates as certificates
use Rattle.loaded_examples.specs.Scripts as scripts
use Rattle.loaded_examples.proofs.CertificatesRead as listed
use Rattle.loaded_examples.proofs.Counted.{renewing_counted}
use Rattle.loaded_examples.proofs.OneLine.{yes_told}
use Rattle.loaded_examples.proofs.ScriptsRead.{renewing_read}
use Rattle.loaded_examples.proofs.told.begun_talk_is_told.Goals as goal

pub returns : goal.returns
returns c =
    let few = c.accepted_scripts.ensures scripts.renewing renewing renewing_read in
    let example = c.a_begun_call_talks.ensures in
    yes_told scripts.renewing certificates.renewing renewing renewing_entries (record { reads = renewing_read; lists = listed.renewing_read }) 14 (record {
      accepted = example.accepted;
      few_commands = few.1;
      listed = example.listed;
      none_broken = example.none_broken;
      safe = c.every_run_is_good.ensures renewing renewing_entries example.accepted example.listed example.none_broken;
      counted = renewing_counted;
    })

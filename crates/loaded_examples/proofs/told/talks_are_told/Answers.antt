-- The line is a yes, since the promise over runs has what the checker says: the readers' law, the example, and the count.
use Rattle.mg_examples.specs.TalkEntries.{reachable}
use Rattle.mg_examples.specs.TwoLines.{calling}
use Rattle.mg_examples.specs.TwoTalks.{both_lines}
use Rattle.loaded_examples.specs.Certificates as certificates
use Rattle.loaded_examples.specs.Scripts as scripts
use Rattle.loaded_examples.proofs.CertificatesRead.{reachable_read}
use Rattle.loaded_examples.proofs.Counted.{reachable_counted}
use Rattle.loaded_examples.proofs.OneLine.{yes_told}
use Rattle.loaded_examples.proofs.ScriptsRead.{calling_read}
use Rattle.loaded_examples.proofs.told.talks_are_told.Goals as goal

pub returns : goal.returns
returns c =
    let few = c.accepted_scripts.ensures scripts.calling (calling both_lines) calling_read in
    let example = c.two_calls_talk_at_once.ensures in
    yes_told scripts.calling certificates.reachable (calling both_lines) reachable (record { reads = calling_read; lists = reachable_read }) 12 (record {
      accepted = example.accepted;
      few_commands = few.1;
      listed = example.listed;
      none_broken = example.none_broken;
      safe = c.every_run_is_good.ensures (calling both_lines) reachable example.accepted example.listed example.none_broken;
      counted = reachable_counted;
    })

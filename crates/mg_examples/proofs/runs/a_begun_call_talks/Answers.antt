-- The script, its entries and the run.
use Rattle.mg_examples.proofs.BegunTalkRun.{begun_call_talks}
use Rattle.mg_examples.proofs.runs.a_begun_call_talks.Goals as goal

pub returns : goal.returns
returns c = begun_call_talks

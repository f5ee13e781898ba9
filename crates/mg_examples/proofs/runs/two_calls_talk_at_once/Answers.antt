-- The script, its entries and the run.
use Rattle.mg_examples.proofs.TwoTalksRun.{two_calls_talk}
use Rattle.mg_examples.proofs.runs.two_calls_talk_at_once.Goals as goal

pub returns : goal.returns
returns c = two_calls_talk

-- The run.
use Rattle.mg_examples.proofs.TalkRun.{leads}
use Rattle.mg_examples.proofs.runs.a_run_joins_two_lines.Goals as goal

pub returns : goal.returns
returns c = leads

-- The script and the run.
use Rattle.mg_examples.proofs.LongRun.{lasts_to_the_limit}
use Rattle.mg_examples.proofs.runs.a_run_lasts_to_the_limit.Goals as goal

pub returns : goal.returns
returns c = lasts_to_the_limit

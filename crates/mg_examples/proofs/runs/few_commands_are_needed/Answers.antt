-- The script and the run.
use Rattle.mg_examples.proofs.FewCommandsNeeded.{few_commands_needed}
use Rattle.mg_examples.proofs.runs.few_commands_are_needed.Goals as goal

pub returns : goal.returns
returns c = few_commands_needed

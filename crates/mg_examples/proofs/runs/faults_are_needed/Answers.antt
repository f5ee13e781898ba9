-- The script and the run.
use Rattle.mg_examples.proofs.FaultsNeeded.{faults_needed}
use Rattle.mg_examples.proofs.runs.faults_are_needed.Goals as goal

pub returns : goal.returns
returns c = faults_needed

-- The script, the run, and that the call stands still.
use Rattle.mg_examples.proofs.DigitsNeeded.{digits_needed}
use Rattle.mg_examples.proofs.runs.digits_are_not_enough.Goals as goal

pub returns : goal.returns
returns c = digits_needed

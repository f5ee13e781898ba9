-- The law.
use Rattle.delivery.proofs.Notes.{seen_again}
use Rattle.delivery.proofs.laws.seen_once_accepted.Goals as goal

pub returns : goal.returns
returns c = seen_again

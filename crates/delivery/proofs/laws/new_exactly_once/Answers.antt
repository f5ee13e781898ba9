-- The law.
use Rattle.delivery.proofs.Notes.{new_once}
use Rattle.delivery.proofs.laws.new_exactly_once.Goals as goal

pub returns : goal.returns
returns c = new_once

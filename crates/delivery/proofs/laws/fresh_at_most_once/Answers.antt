-- The law.
use Rattle.delivery.proofs.Requests.{fresh_once}
use Rattle.delivery.proofs.laws.fresh_at_most_once.Goals as goal

pub returns : goal.returns
returns g c = fresh_once

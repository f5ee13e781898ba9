-- The law.
use Rattle.delivery.proofs.Requests.{fresh_above}
use Rattle.delivery.proofs.laws.fresh_exactly_above.Goals as goal

pub returns : goal.returns
returns g c = fresh_above

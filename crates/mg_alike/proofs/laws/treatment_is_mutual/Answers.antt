-- The law.
use Rattle.mg_alike.proofs.Shared.Turned.{treated_mutually}
use Rattle.mg_alike.proofs.laws.treatment_is_mutual.Goals as goal

pub returns : goal.returns
returns c = treated_mutually

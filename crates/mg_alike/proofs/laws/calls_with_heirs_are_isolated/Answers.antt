-- The law.
use Rattle.mg_alike.proofs.Alone.Throughout.{heirs_isolated}
use Rattle.mg_alike.proofs.laws.calls_with_heirs_are_isolated.Goals as goal

pub returns : goal.returns
returns c = heirs_isolated

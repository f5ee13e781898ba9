-- The law.
use Rattle.mg_alike.proofs.Alone.Throughout.{isolated_throughout}
use Rattle.mg_alike.proofs.laws.calls_are_isolated_throughout.Goals as goal

pub returns : goal.returns
returns c = isolated_throughout

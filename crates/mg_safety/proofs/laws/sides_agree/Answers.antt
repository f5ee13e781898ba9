-- The law.
use Rattle.mg_safety.proofs.Shared.Sides.{sides_agree}
use Rattle.mg_safety.proofs.laws.sides_agree.Goals as goal

pub returns : goal.returns
returns c = sides_agree

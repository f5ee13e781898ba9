use Rattle.std.proofs.Common.{arith}
use Rattle.std.proofs.lemmas.Grind.{common_steps}
use Rattle.std.proofs.lemmas.List.{length-map}
use Rattle.std.proofs.lemmas.List.Folds.{list_all-map}
use Rattle.digits.proofs.map.is_short.Goals as goal

pub returns-then-alternatives-le-LIMIT : goal.returns-then-alternatives-le-LIMIT
returns-then-alternatives-le-LIMIT c = rw list_all-map (grind (arith, common_steps, length-map))

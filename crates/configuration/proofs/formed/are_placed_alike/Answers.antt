-- The two words agree under the mask.
use Rattle.std.proofs.Common.{◌≡◌, ℕ, nat_eq, IsTrue, arith}
use Rattle.std.proofs.lemmas.Grind.{common_steps}
use Rattle.configuration.proofs.FormedLemmas.{placed_alike}
use Rattle.configuration.proofs.formed.are_placed_alike.Goals as goal

is_zero : (n : ℕ) → IsTrue (nat_eq n 0) → n ≡ 0
is_zero n h = grind (arith, common_steps)

pub returns : goal.returns
returns c same = placed_alike c.args.one c.args.other (is_zero _ same)

-- One bit, at twice the field's number.
use Rattle.std.proofs.Common.{◌≡◌, ℕ, ◌*◌, ◌==◌, arith, ◌∙◌}
use Rattle.std.proofs.lemmas.Grind.{common_steps}
use Rattle.configuration.proofs.BitLemmas.{has_one}
use Rattle.configuration.proofs.standing.bit_of.Goals as goal

twice : (n m k : ℕ) → k ≡ m → (2 * n == 2 * k) ≡ (m == n)
twice n m k e = grind (arith, common_steps)

pub returns : goal.returns
returns c n =
    has_one (2 * c.field.result) (2 * n) (omega (arith, c.field.ensures.small)) ∙ twice n _ _ c.field.ensures.value

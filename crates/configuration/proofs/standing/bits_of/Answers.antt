-- Two words joined.
use Rattle.std.proofs.Common.{◌||◌, ◌*◌, ap₂, ◌∙◌}
use Rattle.configuration.proofs.BitLemmas.{has_or}
use Rattle.configuration.proofs.standing.bits_of.Goals as goal

pub returns : goal.returns
returns c n =
    has_or _ _ (2 * n) ∙ ap₂ (λ a b. a || b) (c.bit_of.ensures n) (c.bit_of-2.ensures n)

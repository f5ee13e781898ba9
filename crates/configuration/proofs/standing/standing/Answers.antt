-- Four words joined and shifted.
use Rattle.std.proofs.Common.{◌≡◌, ℕ, ◌+◌, ◌*◌, ◌||◌, ap, ap₂, sym, arith, ◌∙◌}
use Rattle.std.specs.Int.RustNames.{bit_or}
use Rattle.configuration.specs.Bits.{has}
use Rattle.configuration.proofs.BitLemmas.{has_or, has_shifted}
use Rattle.configuration.proofs.StandingLemmas.{stands_in_numbers}
use Rattle.configuration.proofs.standing.standing.Goals as goal

-- four joined words at one place
joined : (a b c d p : ℕ) → has (bit_or (bit_or a b) (bit_or c d)) p ≡ ((has a p || has b p) || (has c p || has d p))
joined a b c d p = has_or _ _ p ∙ ap₂ (λ x y. x || y) (has_or a b p) (has_or c d p)

pub returns : goal.returns
returns c j h =
    let place : 52 + 2 * j ≡ 50 + 2 * (j + 1) = omega arith in
    let lines = c.lines_word-lines.ensures.value in
    let ephemerals = c.ephemerals_word-ephemerals.ensures.value in
    ap (has _) place ∙ has_shifted _ 50 (2 * (j + 1)) (omega arith) ∙ joined _ _ _ _ (2 * (j + 1))
    ∙ ap₂ (λ x y. x || y)
    (ap₂ (λ x y. x || y) (rw lines at c.bits_of.ensures (j + 1)) (rw lines at c.bits_of-2.ensures (j + 1)))
    (ap₂ (λ x y. x || y) (rw ephemerals at c.bits_of-3.ensures (j + 1)) (rw ephemerals at c.bits_of-4.ensures (j + 1)))
    ∙ sym (stands_in_numbers c.args.config.now j h)

-- Four words joined.
use Rattle.std.proofs.Common.{◌≡◌, ◌<◌, nat_lt, ◌&&◌, true, ap, ◌∙◌, arith}
use Rattle.std.proofs.lemmas.Grind.{common_steps}
use Rattle.std.specs.Int.RustNames.{bit_or}
use Rattle.configuration.specs.Bits.{has}
use Rattle.configuration.proofs.SearchLemmas.{four_or, four_same, has_low}
use Rattle.configuration.proofs.config.paths.crossed.Goals as goal

pub returns-clause-value : goal.returns-clause-value
returns-clause-value c i h =
    let inside : nat_lt i 4 ≡ true = grind (arith, common_steps) in
    let within : i < 8 = omega arith in
    ap (λ n. has n i) c.field.ensures.value ∙ has_low (bit_or c.part-3.result (bit_or c.part-4.result (bit_or c.part.result c.part-2.result))) 4 i ∙ ap (λ b. b && has (bit_or c.part-3.result (bit_or c.part-4.result (bit_or c.part.result c.part-2.result))) i) inside
    ∙ four_or c.part-3.result c.part-4.result c.part.result c.part-2.result i
    ∙ four_same _ _ _ _ _ _ _ _ (c.part-3.ensures.value i within) (c.part-4.ensures.value i within) (c.part.ensures.value i within) (c.part-2.ensures.value i within)

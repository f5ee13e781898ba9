-- A field's bits, where the bit is set.
use Rattle.std.proofs.Common.{◌≡◌, ℕ, ◌+◌, nat_lt, ◌&&◌, true, false, ap, ◌∙◌, sym, arith}
use Rattle.std.proofs.lemmas.Grind.{common_steps}
use Rattle.configuration.specs.Bits.{has}
use Rattle.configuration.specs.Fields.{field_of}
use Rattle.configuration.proofs.BitLemmas.{has_field, has_none}
use Rattle.configuration.proofs.config.paths.part.Goals as goal

bit_set : (m b n : ℕ) → n ≡ field_of m b 1 → (n ≡ 0 → ⊥) → has m b ≡ true
unfolding has
bit_set m b n e h = grind (arith, common_steps)

bit_clear : (m b n : ℕ) → n ≡ field_of m b 1 → n ≡ 0 → has m b ≡ false
unfolding has
bit_clear m b n e h = grind (arith, common_steps)

pub returns-then-field-ne0-clause-value : goal.returns-then-field-ne0-clause-value
returns-then-field-ne0-clause-value c u h =
    let inside : nat_lt u 8 ≡ true = grind (arith, common_steps) in
    let set : has c.args.mask c.args.bit ≡ true = bit_set c.args.mask c.args.bit c.field.result c.field.ensures.value c.if-field-ne0.true in
    ap (λ n. has n u) c.field-then-field-ne0.ensures.value ∙ has_field c.args.word c.args.place 8 u
    ∙ ap (λ b. b && has c.args.word (c.args.place + u)) (inside ∙ sym set)

pub returns-else-field-ne0-clause-value : goal.returns-else-field-ne0-clause-value
returns-else-field-ne0-clause-value c u h =
    has_none u
    ∙ ap (λ b. b && has c.args.word (c.args.place + u)) (sym (bit_clear c.args.mask c.args.bit c.field.result c.field.ensures.value c.if-field-ne0.false))

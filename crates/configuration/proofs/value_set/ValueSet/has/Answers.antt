-- The bit of the field's number.
use Rattle.std.proofs.Common.{not, nat_eq, ap, ap₂, ◌∙◌, arith}
use Rattle.configuration.specs.Fields.{field_of}
use Rattle.configuration.specs.Bits.{has}
use Rattle.configuration.specs.Regions.{is_in}
use Rattle.configuration.proofs.FieldLemmas.{power_le}
use Rattle.configuration.proofs.value_set.ValueSet.has.Goals as goal

pub field-requires-clause-place : goal.field-requires-clause-place
field-requires-clause-place c =
    omega (arith, c.field-number.ensures.small, power_le c.size.result 5 c.size.ensures.small)

pub returns-clause-value : goal.returns-clause-value
unfolding is_in has
returns-clause-value c =
    let number = rw (c.config_word-word.ensures.value, c.word.ensures.value, c.place.ensures.value, c.size.ensures.value)
    at c.field-number.ensures.value in
    ap (λ n. not (nat_eq n 0)) (c.field.ensures.value ∙ ap₂ (λ a n. field_of a n 1) c.allowed.ensures number)

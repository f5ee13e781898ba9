-- The bit of the field's number.
use Rattle.std.proofs.Common.{not, nat_eq, ap, ap₂, ◌∙◌, arith}
use Rattle.configuration.specs.Fields.{field_of}
use Rattle.configuration.specs.Bits.{has}
use Rattle.configuration.specs.Regions.{is_in}
use Rattle.configuration.proofs.FieldLemmas.{power_le}
use Rattle.configuration.proofs.value_set.ValueSet.has_word.Goals as goal

pub field-requires-clause-place : goal.field-requires-clause-place
field-requires-clause-place c =
    omega (arith, c.field-number.ensures.small, power_le c.size.result 5 c.size.ensures.small)

pub returns : goal.returns
unfolding is_in has
returns c w are =
    let read = c.field-number.ensures.value ∙ ap (λ k. field_of k c.place.result c.size.result) (are c.word.result c.word.ensures.small) in
    let number = rw (c.word.ensures.value, c.place.ensures.value, c.size.ensures.value) at read in
    ap (λ n. not (nat_eq n 0)) (c.field.ensures.value ∙ ap₂ (λ a n. field_of a n 1) c.allowed.ensures number)

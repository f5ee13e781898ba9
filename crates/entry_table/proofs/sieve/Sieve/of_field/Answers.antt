-- Each row has every member, and none is kept apart.
use Rattle.std.proofs.Common.{◌∙◌, ap, arith, refl}
use Rattle.configuration.specs.Bits.{has}
use Rattle.configuration.specs.Fields.{field_of}
use Rattle.configuration.specs.Regions.{word_at}
use Rattle.configuration.proofs.FieldLemmas.{power_le}
use Rattle.configuration.proofs.WordLemmas.{small}
use Rattle.entry_table.proofs.RowLemmas.{has_every}
use Rattle.entry_table.proofs.SieveLemmas.{by_rows}
use Rattle.entry_table.proofs.sieve.Sieve.of_field.Goals as goal

pub returns-clause-every : goal.returns-clause-every
returns-clause-every c member w below =
    let bits = c.size.result in
    let number = field_of (word_at w c.word.result) c.place.result bits in
    by_rows (record { word = c.word.result; at = c.place.result; bits = bits; rows = c.rows_of_all.result; members = 0; allowed = c.allowed.result })
    member w refl
    ∙ ap (λ row. has row member)
    (c.rows_of_all.ensures number (omega (arith, small (word_at w c.word.result) c.place.result bits, power_le bits 5 c.size.ensures.small)))
    ∙ has_every member below

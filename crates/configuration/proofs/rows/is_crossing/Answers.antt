-- The numbers of two ephemerals that name each other.
use Rattle.configuration.proofs.RowLemmas.{crossing_numbers}
use Rattle.configuration.proofs.rows.is_crossing.Goals as goal

pub returns : goal.returns
returns c =
    rw (c.field.ensures.value, c.field-2.ensures.value, c.field-3.ensures.value, c.field-4.ensures.value, c.from.ensures, c.from-2.ensures, c.ephemerals_word-word.ensures.value)
    (crossing_numbers c.args.config.now c.args.one c.args.other c.requires.one c.requires.other)

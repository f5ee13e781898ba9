-- The bits before and after the place of the termination itself.
use Rattle.configuration.proofs.RowLemmas.{cut_row_bits}
use Rattle.configuration.proofs.rows.cut_row.Goals as goal

pub returns : goal.returns
returns c u h other = cut_row_bits c.args.cuts c.args.source u _ _ c.requires h other c.field-low.ensures.value c.field-high.ensures.value

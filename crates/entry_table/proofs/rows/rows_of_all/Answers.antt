-- Row by row.
use Rattle.std.proofs.lemmas.List.{get_or-replicate}
use Rattle.entry_table.proofs.rows.rows_of_all.Goals as goal

pub returns : goal.returns
returns c n below = get_or-replicate 32 n 18446744073709551615 0 below

-- No bit is in both.
use Rattle.std.proofs.Common.{bit_and}
use Rattle.std.proofs.lemmas.Bool.{eqb-true}
use Rattle.entry_table.proofs.RowLemmas.{has_not_any}
use Rattle.entry_table.proofs.rows.is_clear.Goals as goal

pub returns : goal.returns
returns c clear may b = has_not_any c.args.row c.args.members b (eqb-true (bit_and c.args.row c.args.members) 0 clear)

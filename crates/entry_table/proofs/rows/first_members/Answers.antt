-- All of a group, or the low bits.
use Rattle.std.proofs.Common.{◌∙◌, sym, arith}
use Rattle.std.proofs.lemmas.Bool.{lt-ltb}
use Rattle.entry_table.proofs.RowLemmas.{has_every, has_first}
use Rattle.entry_table.proofs.rows.first_members.Goals as goal

pub returns-then-count-ge64 : goal.returns-then-count-ge64
returns-then-count-ge64 c b below = has_every b below ∙ sym (lt-ltb b c.args.count (omega (arith, c.if-count-ge64.true)))

pub returns : goal.returns
returns c b below = has_first c.args.count b (omega (arith, c.if-count-ge64.false))

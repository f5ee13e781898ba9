-- The row has the members' bits.
use Rattle.entry_table.proofs.RowLemmas.{below_32, below_shifted, has_all}
use Rattle.std.proofs.Common.{slice_index}
use Rattle.entry_table.proofs.rows.row_of_all.Goals as goal

pub bounds-rows-number : goal.bounds-rows-number
bounds-rows-number c = below_32 c.args.bits c.loop-number.number c.requires.bits c.loop-number-test.true

pub returns-then-rows-number-clause-small : goal.returns-then-rows-number-clause-small
returns-then-rows-number-clause-small c = below_shifted c.args.bits c.loop-number.number c.requires.bits c.loop-number-test.true

pub returns-then-rows-number-clause-all : goal.returns-then-rows-number-clause-all
returns-then-rows-number-clause-all c b = has_all (slice_index c.args.rows.now c.loop-number.number) c.args.members b c.if-rows-number.true

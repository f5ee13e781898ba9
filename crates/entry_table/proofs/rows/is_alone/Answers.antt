-- One row more is clear.
use Rattle.entry_table.proofs.RowLemmas.{below_32, one_more_clear, past_shifted}
use Rattle.entry_table.proofs.rows.is_alone.Goals as goal

pub bounds-rows-other : goal.bounds-rows-other
bounds-rows-other c = below_32 c.args.bits c.loop-other.other c.requires.bits c.loop-other-test.true

pub loop-other-preserved : goal.loop-other-preserved
loop-other-preserved c =
    one_more_clear c.args.rows.now c.args.members c.args.number c.loop-other.other (c.is_clear.ensures c.if-not-is_clear.false) c.loop-other.invariant

pub returns : goal.returns
returns c alone n b below =
    c.loop-other.invariant n b (past_shifted c.args.bits n c.loop-other.other c.requires.bits c.loop-other-test.false below)

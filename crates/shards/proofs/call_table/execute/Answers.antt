-- The record that is found is that of the call, so it is ready.
use Rattle.std.proofs.Common.{sym}
use Rattle.shards.specs.CallTable.{record_in}
use Rattle.shards.proofs.call_table.execute.Goals as goal

pub execute-requires-clause-tied : goal.execute-requires-clause-tied
unfolding record_in
execute-requires-clause-tied c = (c.requires.ready _ (sym c.in-Some.ensures.value)).0

pub execute-requires-clause-events : goal.execute-requires-clause-events
unfolding record_in
execute-requires-clause-events c = (c.requires.ready _ (sym c.in-Some.ensures.value)).1

-- The record that is found is that of the call, so it is ready.
use Rattle.std.proofs.Common.{sym}
use Rattle.shards.specs.CallTable.{record_in}
use Rattle.shards.proofs.call_table.happen.Goals as goal

pub happen-requires-clause-events : goal.happen-requires-clause-events
unfolding record_in
happen-requires-clause-events c = (c.requires.ready _ (sym c.in-Some.ensures.value)).1

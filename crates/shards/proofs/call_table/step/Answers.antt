-- The record that is found is that of the call, so it is ready.
use Rattle.std.proofs.Common.{sym}
use Rattle.shards.specs.CallTable.{record_in}
use Rattle.shards.proofs.call_table.step.Goals as goal

pub step-requires-clause-tied : goal.step-requires-clause-tied
unfolding record_in
step-requires-clause-tied c = (c.requires _ (sym c.in-Some.ensures.value)).0

pub step-requires-clause-events : goal.step-requires-clause-events
unfolding record_in
step-requires-clause-events c = (c.requires _ (sym c.in-Some.ensures.value)).1

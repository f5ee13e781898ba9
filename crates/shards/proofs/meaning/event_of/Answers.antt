-- The record that is found is that of the call, so it is tied.
use Rattle.std.proofs.Common.{sym}
use Rattle.shards.specs.CallTable.{record_in}
use Rattle.shards.proofs.meaning.event_of.Goals as goal

pub settle-requires : goal.settle-requires
unfolding record_in
settle-requires c = c.requires _ (sym c.in-Some.ensures.value)

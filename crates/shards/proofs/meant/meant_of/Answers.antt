-- The record that is found is that of the call, so it is tied.
use Rattle.std.proofs.Common.{sym}
use Rattle.shards.specs.CallTable.{record_in}
use Rattle.shards.proofs.meant.meant_of.Goals as goal

pub meant_by-requires : goal.meant_by-requires
unfolding record_in
meant_by-requires c = c.requires _ (sym c.in-Some.ensures.value)

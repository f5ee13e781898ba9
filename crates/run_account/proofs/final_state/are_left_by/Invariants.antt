-- The lines so far tell where the run leaves their calls, and the place is behind the events that they tell.
use Rattle.std.proofs.Common.{◌≡◌, take}
use Rattle.run_shards.specs.Taking.{trail_of}
use Rattle.run_account.specs.OtherLines.{events_told}
use Rattle.run_account.proofs.FinalLines.{AreLeftSoFar}
use Rattle.run_account.proofs.OtherLine.{IsBelow}
use Rattle.run_account.proofs.final_state.are_left_by.Given as goal

abbrev pub invariant-loop-line : goal.invariant-loop-line
invariant-loop-line l = record {
  left : AreLeftSoFar l.script l.shard (trail_of l.planned) l.call l.place l.least (take l.line-index l.lines);
  told : l.place ≡ events_told (take l.line-index l.lines);
  below : IsBelow l.least (take l.line-index l.lines);
}

-- The shards so far are those of the run with the first numbers, and each is counted.
use Rattle.std.proofs.Common.{◌≡◌, length}
use Rattle.planned_calls.specs.RunShards.{AreOfRun}
use Rattle.run_shards.specs.Counting.{AreCounted}
use Rattle.run_shards.proofs.joined.unlocked.Given as goal

abbrev pub invariant-loop-lock : goal.invariant-loop-lock
invariant-loop-lock g l = record {
  place : l.place ≡ length l.shards.items;
  kept : AreOfRun g.B.Running.script g.B.Running.calls g.B.Running.count 0 l.shards.items;
  counted : AreCounted g.B.Running.script g.B.Running.calls g.B.Running.count 0 l.shards.items l.counts.items;
}

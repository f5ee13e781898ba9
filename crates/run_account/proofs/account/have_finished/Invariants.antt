-- The shards so far have finished.
use Rattle.std.proofs.Common.{take}
use Rattle.run_account.specs.Finishing.{AreFinished}
use Rattle.run_account.proofs.account.have_finished.Given as goal

abbrev pub invariant-loop-shard : goal.invariant-loop-shard
invariant-loop-shard l = AreFinished l.restarts (take l.shard-index l.shards)

-- Of a run as it is asked for, and counted as a new count is.
use Rattle.run_shards.proofs.locked_shard.LockedShard.new.Goals as goal

pub invariant_of-result : goal.invariant_of-result
invariant_of-result g c = (
  c.requires.of_run,
  c.in_ok-count.ensures.counted g.B.Running.script g.B.Running.calls g.B.Running.count c.args.number c.requires.all c.requires.of_run,
)

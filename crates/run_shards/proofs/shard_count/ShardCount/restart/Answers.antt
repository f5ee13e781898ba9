-- The log is one restart longer.
use Rattle.std.proofs.Common.{◌∙◌, length, ap, sym}
use Rattle.run_shards.proofs.CountedLogs.{restart_logged, still_of_run}
use Rattle.run_shards.proofs.shard_count.ShardCount.restart.Goals as goal

pub returns-in-Ok-clause-counted : goal.returns-in-Ok-clause-counted
returns-in-Ok-clause-counted c = λ count number told script of_run counted. (
  still_of_run script c.args.plan.now.calls count number c.args.shard.now c.take_restart.new.shard c.take_restart.ensures.opening of_run,
  record {
    all_counts = ap (λ counts. length counts.items) c.take_restart.ensures.counts ∙ counted.all_counts;
    all_places = c.take_restart.ensures.places ∙ counted.all_places;
    logged = λ whole. restart_logged script c.args.plan.now.calls count number c.args.shard.now of_run.of_script c.args.self.now c.take_restart.new.shard
        c.take_restart.new.self c.args.first c.args.is_own told (c.in-Ok.ensures.taken counted.all_places) (ap (λ counts. counts.items) c.take_restart.ensures.counts)
        (counted.logged (sym c.take_restart.ensures.whole ∙ whole));
  },
)

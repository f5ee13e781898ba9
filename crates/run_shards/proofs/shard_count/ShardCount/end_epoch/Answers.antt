-- The log is one end of an epoch longer.
use Rattle.std.proofs.Common.{◌∙◌, length, ap, sym}
use Rattle.run_shards.proofs.CountedLogs.{end_logged, still_of_run}
use Rattle.run_shards.proofs.shard_count.ShardCount.end_epoch.Goals as goal

pub returns-in-Ok-clause-counted : goal.returns-in-Ok-clause-counted
returns-in-Ok-clause-counted c = λ script of_run counted. (
  still_of_run script c.args.plan.now.calls c.args.count c.args.number c.args.shard.now c.take_end.new.shard c.take_end.ensures.opening of_run,
  record {
    all_counts = ap (λ counts. length counts.items) c.take_end.ensures.counts ∙ counted.all_counts;
    all_places = c.take_end.ensures.places ∙ counted.all_places;
    logged = λ whole. end_logged script c.args.plan.now.calls c.args.count c.args.number c.args.shard.now of_run.of_script c.args.self.now c.take_end.new.shard
        c.take_end.new.self c.in-Ok.ensures.taken (ap (λ counts. counts.items) c.take_end.ensures.counts)
        (counted.logged (sym c.take_end.ensures.whole ∙ whole));
  },
)

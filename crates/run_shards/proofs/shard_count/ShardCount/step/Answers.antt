-- The log is one entry longer.
use Rattle.std.proofs.Common.{◌≡◌, ◌∙◌, length, sym, subst}
use Rattle.std.specs.Prelude.{IfOk}
use Rattle.run_shards.proofs.CountedLogs.{step_logged, still_of_run}
use Rattle.run_shards.specs.Counting.{TakesStep}
use Rattle.run_shards.proofs.shard_count.ShardCount.step.Goals as goal

pub returns-in-Ok-clause-counted : goal.returns-in-Ok-clause-counted
returns-in-Ok-clause-counted c = λ script count number of_run counted. (
  still_of_run script c.args.plan.now.calls count number c.args.shard.now c.take-planned.new.shard c.take-planned.ensures.opening of_run,
  record {
    all_counts = c.take-planned.ensures.counts ∙ counted.all_counts;
    all_places = c.take-planned.ensures.places ∙ counted.all_places;
    logged = λ whole. step_logged script c.args.plan.now.calls count number c.args.shard.now of_run.of_script c.args.self.now c.take-planned.new.shard
        c.take-planned.new.self
        (subst (λ r. IfOk r (λ _. length c.args.self.now.places.items ≡ length c.args.plan.now.calls
        → TakesStep c.args.plan.now.calls c.args.shard.now c.args.self.now c.take-planned.new.shard c.take-planned.new.self))
        c.in-Ok.is c.take-planned.ensures.taken counted.all_places)
        (counted.logged (sym c.take-planned.ensures.whole ∙ whole));
  },
)

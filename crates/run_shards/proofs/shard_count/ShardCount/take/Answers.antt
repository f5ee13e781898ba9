-- The step is the plan's next one, it was taken, and is counted.
use Rattle.std.proofs.Common.{◌≡◌, ◌∙◌, length, sym, ap, subst}
use Rattle.std.specs.Prelude.{IfOk}
use Rattle.planned_calls.specs.Taking.{IsTaken, first_of}
use Rattle.run_shards.proofs.TakenCounts.{both_ok}
use Rattle.run_shards.specs.Counting.{TakesStep}
use Rattle.run_shards.proofs.shard_count.ShardCount.take.Goals as goal

pub returns-in-Ok-clause-taken : goal.returns-in-Ok-clause-taken
returns-in-Ok-clause-taken c =
    both_ok c.count-counted.result _ _
    (length c.args.self.now.places.items ≡ length c.args.plan.now.calls
    → TakesStep c.args.plan.now.calls c.args.shard.now c.args.self.now c.step-planned.new.shard c.count-counted.new.self)
    (λ counts places all. record {
      first = first_of c.args.planned;
      step = c.in-Some.step;
      told = c.in-Ok.told;
      next = sym (c.next_step.ensures all) ∙ c.in-Some.is;
      left = c.identifiers_are_left.ensures;
      taken = subst (λ r. IfOk r (λ told. IsTaken c.args.shard.now c.step-planned.new.shard (first_of c.args.planned) c.in-Some.step told)) c.in-Ok.is c.step-planned.ensures.taken;
      counts = counts;
      places = places;
      epoch = c.count-counted.ensures.epoch;
      restarts = c.count-counted.ensures.restarts;
      ends = ap (λ ends. ends.items) c.count-counted.ensures.ends;
    })
    c.count-counted.ensures.counted c.count-counted.ensures.raised

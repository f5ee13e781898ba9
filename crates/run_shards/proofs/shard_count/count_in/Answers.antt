-- The count of this call goes on, and the others stay.
use Rattle.run_shards.proofs.CountedPlaces.{one_counted}
use Rattle.run_shards.proofs.TakenCounts.{on_ok}
use Rattle.run_shards.proofs.shard_count.count_in.Goals as goal

pub returns-in-Some-clause-counted : goal.returns-in-Some-clause-counted
returns-in-Some-clause-counted c =
    on_ok c.count.result _ _
    (one_counted c.args.step.now c.args.told.now c.args.first c.args.counts.now.items c.in-Some.count.now c.count.new.self c.in-Some.ensures.item.3.0 c.in-Some.ensures.item.1)
    c.count.ensures.counted

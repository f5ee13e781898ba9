-- One shard more has finished.
use Rattle.std.proofs.Common.{◌∙◌, ◌++◌, [], ◌∷◌, List, rules, sym, ap, subst, take}
use Rattle.std.proofs.lemmas.List.{take_more}
use Rattle.run_shards.specs.Shards.{ShardValue}
use Rattle.run_account.specs.Finishing.{AreFinished}
use Rattle.run_account.proofs.FinishedRuns.{finished_more}
use Rattle.run_account.proofs.account.have_finished.Goals as goal

pub loop-shard-preserved : goal.loop-shard-preserved
loop-shard-preserved c =
    let shards = c.args.shards.now in
    let i = c.loop-shard.shard-index in
    subst (λ (vs : List ShardValue). AreFinished c.args.restarts vs)
    (ap (λ (v : ShardValue). take i shards ++ v ∷ []) c.shard-item.is ∙ sym (take_more shards i c.shard-item.result c.loop-shard-test.true))
    (finished_more c.args.restarts (take i shards) c.shard-item.result c.loop-shard.invariant (c.if-not-has_finished.ensures.yes (search rules)))

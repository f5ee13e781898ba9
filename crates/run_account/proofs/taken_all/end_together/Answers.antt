-- One shard more did so, or ended one after others.
use Rattle.std.proofs.Common.{◌≡◌, ◌∙◌, ◌++◌, [], ◌∷◌, List, Some, rules, sym, ap, subst, take}
use Rattle.std.specs.Prelude.{Contains}
use Rattle.std.proofs.lemmas.List.{take_all, take_more}
use Rattle.std.proofs.lemmas.Option.{slice_get-get_or}
use Rattle.run_shards.specs.declared.shard_count.ShardCount.{ShardCount}
use Rattle.run_account.specs.TakenAll.{ends_of_first}
use Rattle.run_account.proofs.EachShard.{ends_more, there}
use Rattle.run_account.proofs.taken_all.end_together.Goals as goal

pub loop-count-preserved : goal.loop-count-preserved
loop-count-preserved c =
    let counts = c.args.counts.now in
    let i = c.loop-count.count-index in
    subst (λ (cs : List ShardCount). (d : ShardCount) → Contains cs d → d.ends.items ≡ ends_of_first counts)
    (ap (λ (one : ShardCount). take i counts ++ one ∷ []) c.count-item.is ∙ sym (take_more counts i c.count-item.result c.loop-count-test.true))
    (ends_more (take i counts) c.count-item.result (ends_of_first counts) c.loop-count.invariant
    (c.if-not-ends_as.ensures.yes (search rules) ∙ c.first_ends-ends.ensures))

pub returns-then-not-ends_as-clause-no : goal.returns-then-not-ends_as-clause-no
returns-then-not-ends_as-clause-no c told =
    let counts = c.args.counts.now in (
      c.count-item.result,
      there counts c.loop-count.count-index c.count-item.result
          (slice_get-get_or counts c.loop-count.count-index c.count-item.result c.loop-count-test.true ∙ ap Some (sym c.count-item.is)),
      λ same. c.if-not-ends_as.ensures.no (search rules) (same ∙ sym c.first_ends-ends.ensures),
    )

pub returns-clause-yes : goal.returns-clause-yes
returns-clause-yes c told =
    let counts = c.args.counts.now in
    subst (λ (cs : List ShardCount). (d : ShardCount) → Contains cs d → d.ends.items ≡ ends_of_first counts)
    (take_all c.loop-count.count-index counts c.loop-count-test.false) c.loop-count.invariant

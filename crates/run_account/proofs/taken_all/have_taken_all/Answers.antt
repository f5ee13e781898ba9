-- One shard more has taken all steps, or has some left.
use Rattle.std.proofs.Common.{◌≡◌, ◌∙◌, ◌+◌, ◌++◌, ℕ, [], ◌∷◌, Some, length, rules, sym, ap, subst, take, arith}
use Rattle.std.proofs.lemmas.List.{length-take-le, take_all, take_more}
use Rattle.std.proofs.lemmas.Option.{slice_get-get_or}
use Rattle.run_shards.specs.declared.shard_count.ShardCount.{ShardCount}
use Rattle.run_account.specs.TakenAll.{HasNotTakenAll, HasTakenAll, HaveTakenAll}
use Rattle.run_account.proofs.EachShard.{taken_more}
use Rattle.run_account.proofs.taken_all.have_taken_all.Goals as goal

pub loop-count-preserved : goal.loop-count-preserved
loop-count-preserved c =
    let counts = c.args.counts.now in
    let plan = c.args.totals.now in
    let i = c.loop-count.count-index in
    let sized : length (take i counts) ≡ i = length-take-le i counts (omega (arith, c.loop-count-test.true)) in
    let number : c.loop-count.number ≡ 0 + length (take i counts) = omega (arith, c.loop-count.invariant.numbered, sized) in
    record {
      numbered = omega (arith, c.loop-count.invariant.numbered);
      taken = subst (HaveTakenAll plan 0)
          (ap (λ (one : ShardCount). take i counts ++ one ∷ []) c.count-item.is ∙ sym (take_more counts i c.count-item.result c.loop-count-test.true))
          (taken_more plan 0 (take i counts) c.count-item.result c.loop-count.invariant.taken
          (subst (λ (n : ℕ). HasTakenAll plan n c.count-item.result) number (c.if-not-has_taken_all.ensures.yes (search rules))));
    }

pub returns-then-not-has_taken_all-clause-no : goal.returns-then-not-has_taken_all-clause-no
returns-then-not-has_taken_all-clause-no c told = record {
  number = c.loop-count.count-index;
  count = c.count-item.result;
  own = slice_get-get_or c.args.counts.now c.loop-count.count-index c.count-item.result c.loop-count-test.true
      ∙ ap Some (sym c.count-item.is);
  left = subst (λ (n : ℕ). HasNotTakenAll c.args.totals.now n c.count-item.result) c.loop-count.invariant.numbered
      (c.if-not-has_taken_all.ensures.no (search rules));
}

pub returns-clause-yes : goal.returns-clause-yes
returns-clause-yes c told =
    subst (HaveTakenAll c.args.totals.now 0) (take_all c.loop-count.count-index c.args.counts.now c.loop-count-test.false) c.loop-count.invariant.taken

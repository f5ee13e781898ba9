-- Each number that a thread is given is that of a shard, and what is collected stands in the order of the numbers.
use Rattle.std.proofs.Common.{◌≡◌, ◌∙◌, ◌-◌, ◌<◌, ◌≤◌, ℕ, List, sym, ap, subst, arith}
use Rattle.std.specs.List.{AllZip, range_with_len}
use Rattle.rayon.proofs.ListFacts.{IfOk-then}
use Rattle.rayon.proofs.ToStd.{nat_range-All}
use Rattle.rayon.specs.Lists.{min_len_base, range_end, range_start}
use Rattle.rayon.specs.Numbers.{nat_range}
use Rattle.rayon.specs.declared.iter.min_len.MinLen.{MinLen}
use Rattle.rayon.specs.declared.range.Iter.{Iter}
use Rattle.run_shards.specs.Opening.{HandsOutOwn}
use Rattle.run_shards.proofs.opening.open_each.Goals as goal

pub collect-requires-clause-ready : goal.collect-requires-clause-ready
collect-requires-clause-ready g c κs within =
    let ends = c.into_par_iter.ensures in
    let count = c.from-count.result in
    let is_count = c.from-count.ensures ∙ c.shards.ensures in
    let few : count ≤ 16 = omega (arith, c.requires.shards, is_count) in
    let below = nat_range-All (λ shard. shard < count) 0 count (λ shard least most. most) in
    rw (c.map.ensures.base, c.map.ensures.f, c.with_min_len.ensures.base, ends.0, ends.1)
    (λ k d lt. ((below k d lt, (few, (c.requires.few, (c.requires.script, (c.requires.calls, c.requires.count ∙ sym is_count))))), λ y p. tt))

pub returns : goal.returns
returns g c =
    let ends = c.into_par_iter.ensures in
    let script = c.args.checked.now.table in
    let calls = c.args.plan.now.calls in
    let count = c.from-count.result in
    let is_count = c.from-count.ensures ∙ c.shards.ensures in
    let whole : count - 0 ≡ count = omega arith in
    let base = ap (λ (it : MinLen (Iter ℕ)). min_len_base it) c.map.ensures.base ∙ c.with_min_len.ensures.base in
    IfOk-then c.collect.result _ _ c.collect.ensures (λ v h.
    let chain = h.1 in
    let numbers = chain.1 ∙ ap (λ (it : Iter ℕ). nat_range (range_start it) (range_end it)) base ∙ (λ i. nat_range (ends.0 i) (ends.1 i))
    ∙ ap (range_with_len 0) whole in
    let each = subst (λ f. AllZip (HandsOutOwn f.1.now.table f.2.now.calls f.3.now) chain.0 h.0) c.map.ensures.f chain.2 in
    let own = subst (λ (ns : List ℕ). AllZip (HandsOutOwn script calls count) ns h.0) numbers each in
    subst (λ all. AllZip (HandsOutOwn script calls c.args.plan.now.shards) (range_with_len 0 c.args.plan.now.shards) all) (sym h.2)
    (subst (λ (n : ℕ). AllZip (HandsOutOwn script calls n) (range_with_len 0 n) h.0) is_count own))

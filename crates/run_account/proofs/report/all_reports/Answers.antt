-- What is told of each place of the plan is collected in the order of the places.
use Rattle.std.proofs.Common.{◌≡◌, ◌∙◌, ◌-◌, ◌<◌, ℕ, List, length, ap, subst, arith}
use Rattle.std.specs.List.{AllZip, range_with_len}
use Rattle.std.specs.Prelude.{MatchResult, Result}
use Rattle.std.specs.declared.alloc.Global.{Global}
use Rattle.std.specs.declared.vec.Vec.{Vec}
use Rattle.rayon.specs.Lists.{min_len_base, range_end, range_start}
use Rattle.rayon.specs.Numbers.{nat_range}
use Rattle.rayon.specs.declared.iter.min_len.MinLen.{MinLen}
use Rattle.rayon.specs.declared.range.Iter.{Iter}
use Rattle.mg_model.specs.Plans.{Plan, PlanCall}
use Rattle.run_account.specs.Comparing.{trails_of}
use Rattle.run_account.specs.CallReport.{IsTold}
use Rattle.run_shards.specs.RunFault.{RunFault}
use Rattle.run_shards.specs.Line.{Line}
use Rattle.run_shards.specs.Disagreements.{IsBecause}
use Rattle.run_account.specs.Disagreements.{IsNotTold}
use Rattle.run_account.proofs.CallReports.{all_err, all_ok, if_all, if_one, ranged}
use Rattle.run_account.proofs.report.all_reports.Goals as goal

pub returns-clause-told : goal.returns-clause-told
returns-clause-told g c =
    let source = c.args.source.now in
    let told : ℕ → Vec Line Global → Type 0 = λ place lines. IsTold source.checked.now.table source.totals source.shards.now source.counts.now (trails_of source.planned_calls.now) place lines.items in
    let why : ℕ → Type 0 = λ place. IsNotTold source.checked.now.table source.totals source.shards.now source.counts.now source.planned_calls.now place in
    let n = length source.totals.calls in
    let ends = c.into_par_iter.ensures in
    let collected = c.in_ok-all.ensures in
    let chain = collected.1 in
    let base = ap (λ (it : MinLen (Iter ℕ)). min_len_base it) c.map.ensures.base ∙ c.with_min_len.ensures.base in
    let sized : length c.calls-count.result.now - 0 ≡ n =
    ap (λ (calls : List PlanCall). length calls - 0) (c.calls-count.ensures ∙ ap (λ (p : Plan). p.calls) c.plan.ensures)
    ∙ (let same : n - 0 ≡ n = omega arith in same) in
    let places = chain.1 ∙ ap (λ (it : Iter ℕ). nat_range (range_start it) (range_end it)) base
    ∙ (λ i. nat_range (ends.0 i) (ends.1 i)) ∙ ap (range_with_len 0) sized in
    let each = subst (λ f. AllZip (λ (place : ℕ) (one : Result (Vec Line Global) RunFault).
    MatchResult one (λ lines. IsTold f.1.now.checked.now.table f.1.now.totals f.1.now.shards.now f.1.now.counts.now (trails_of f.1.now.planned_calls.now) place lines.items)
    (IsBecause (IsNotTold f.1.now.checked.now.table f.1.now.totals f.1.now.shards.now f.1.now.counts.now f.1.now.planned_calls.now place))) chain.0 collected.0) c.map.ensures.f chain.2 in
    let all : AllZip (λ (place : ℕ) (one : Result (Vec Line Global) RunFault). MatchResult one (told place) (IsBecause (why place))) (range_with_len 0 n) collected.0 =
    subst (λ (ps : List ℕ). AllZip (λ (place : ℕ) (one : Result (Vec Line Global) RunFault). MatchResult one (told place) (IsBecause (why place))) ps collected.0) places each in
    if_all told (range_with_len 0 n) collected.0 c.in_ok-all.all (all_ok told (λ place. IsBecause (why place)) (range_with_len 0 n) collected.0 all) collected.2

pub returns-clause-not_told : goal.returns-clause-not_told
returns-clause-not_told g c =
    let source = c.args.source.now in
    let told : ℕ → Vec Line Global → Type 0 = λ place lines. IsTold source.checked.now.table source.totals source.shards.now source.counts.now (trails_of source.planned_calls.now) place lines.items in
    let why : ℕ → Type 0 = λ place. IsNotTold source.checked.now.table source.totals source.shards.now source.counts.now source.planned_calls.now place in
    let n = length source.totals.calls in
    let ends = c.into_par_iter.ensures in
    let collected = c.in_ok-all.ensures in
    let chain = collected.1 in
    let base = ap (λ (it : MinLen (Iter ℕ)). min_len_base it) c.map.ensures.base ∙ c.with_min_len.ensures.base in
    let sized : length c.calls-count.result.now - 0 ≡ n =
    ap (λ (calls : List PlanCall). length calls - 0) (c.calls-count.ensures ∙ ap (λ (p : Plan). p.calls) c.plan.ensures)
    ∙ (let same : n - 0 ≡ n = omega arith in same) in
    let places = chain.1 ∙ ap (λ (it : Iter ℕ). nat_range (range_start it) (range_end it)) base
    ∙ (λ i. nat_range (ends.0 i) (ends.1 i)) ∙ ap (range_with_len 0) sized in
    let each = subst (λ f. AllZip (λ (place : ℕ) (one : Result (Vec Line Global) RunFault).
    MatchResult one (λ lines. IsTold f.1.now.checked.now.table f.1.now.totals f.1.now.shards.now f.1.now.counts.now (trails_of f.1.now.planned_calls.now) place lines.items)
    (IsBecause (IsNotTold f.1.now.checked.now.table f.1.now.totals f.1.now.shards.now f.1.now.counts.now f.1.now.planned_calls.now place))) chain.0 collected.0) c.map.ensures.f chain.2 in
    let all : AllZip (λ (place : ℕ) (one : Result (Vec Line Global) RunFault). MatchResult one (told place) (IsBecause (why place))) (range_with_len 0 n) collected.0 =
    subst (λ (ps : List ℕ). AllZip (λ (place : ℕ) (one : Result (Vec Line Global) RunFault). MatchResult one (told place) (IsBecause (why place))) ps collected.0) places each in
    if_one why _ _ (range_with_len 0 n) collected.0 c.in_ok-all.all (all_err told (λ place. IsBecause (why place)) (range_with_len 0 n) collected.0 all)
    collected.2 (λ place among not. let within : place < n = omega (arith, ranged 0 n place among) in (place, (within, not)))

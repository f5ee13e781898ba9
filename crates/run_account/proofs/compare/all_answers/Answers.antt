-- The answers of the shards are collected in the order of the shards.
use Rattle.std.proofs.Common.{◌≡◌, ◌∙◌, ◌-◌, ℕ, Bool, List, [], length, map, ap, subst, arith}
use Rattle.std.specs.List.{AllZip, range_with_len}
use Rattle.std.specs.Prelude.{IfOk, Result, slice_index_or}
use Rattle.std.specs.declared.alloc.AllocError.{AllocError}
use Rattle.rayon.specs.Lists.{min_len_base, range_end, range_start}
use Rattle.rayon.specs.Numbers.{nat_range}
use Rattle.rayon.specs.declared.iter.min_len.MinLen.{MinLen}
use Rattle.rayon.specs.declared.range.Iter.{Iter}
use Rattle.run_account.specs.Comparing.{IsCompared, trails_of}
use Rattle.run_account.proofs.CallReports.{if_all}
use Rattle.run_account.proofs.compare.all_answers.Goals as goal

pub returns : goal.returns
returns g c =
    let histories = map (λ v. v.history) c.args.shards.now in
    let trails = trails_of c.args.planned_calls.now in
    let answers : ℕ → Bool → Type 0 = λ place agrees. IsCompared c.args.count place (slice_index_or histories place []) trails agrees in
    let n = length c.args.shards.now in
    let ends = c.into_par_iter.ensures in
    let collected = c.in_ok-answers.ensures in
    let chain = collected.1 in
    let base = ap (λ (it : MinLen (Iter ℕ)). min_len_base it) c.map.ensures.base ∙ c.with_min_len.ensures.base in
    let sized : n - 0 ≡ n = omega arith in
    let places = chain.1 ∙ ap (λ (it : Iter ℕ). nat_range (range_start it) (range_end it)) base
    ∙ (λ i. nat_range (ends.0 i) (ends.1 i)) ∙ ap (range_with_len 0) sized in
    let each = subst (λ f. AllZip (λ (place : ℕ) (one : Result Bool AllocError).
    IfOk one (IsCompared f.1.now place (slice_index_or (map (λ v. v.history) f.2.now) place []) (trails_of f.3.now))) chain.0 collected.0)
    c.map.ensures.f chain.2 in
    let all : AllZip (λ (place : ℕ) (one : Result Bool AllocError). IfOk one (answers place)) (range_with_len 0 n) collected.0 =
    subst (λ (ps : List ℕ). AllZip (λ (place : ℕ) (one : Result Bool AllocError). IfOk one (answers place)) ps collected.0) places each in
    if_all answers (range_with_len 0 n) collected.0 c.in_ok-answers.answers all collected.2

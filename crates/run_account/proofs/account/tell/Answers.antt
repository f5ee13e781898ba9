-- The shards share nothing and finished alike, so their merge is a run of the plan's calls; and they agree with what the calls went through. Or where they
-- disagree.
use Rattle.std.proofs.Common.{◌≡◌, ◌∙◌, ◌<◌, ℕ, List, length, map, refl, rules, sym, ap, subst, arith}
use Rattle.std.specs.List.{All}
use Rattle.std.specs.Prelude.{[], Contains, slice_index_or}
use Rattle.std.proofs.lemmas.List.{length-map}
use Rattle.mg_model.specs.Plans.{Plan}
use Rattle.mg_model.specs.Script.{Script}
use Rattle.run_shards.specs.Shards.{ShardValue}
use Rattle.run_account.specs.Comparing.{Agree, Differ, trails_of}
use Rattle.run_shards.specs.Taking.{trail_of}
use Rattle.run_account.specs.Disagreements.{Disagreement, HasNotTold, differ, not_told, one_left, other_count, other_ends, unfinished}
use Rattle.run_account.specs.Finishing.{AreFinished, HasUnfinished}
use Rattle.run_account.specs.CallReport.{HavePlayed}
use Rattle.run_account.specs.TakenAll.{HasOneLeft, HaveTakenAll}
use Rattle.run_shards.specs.declared.shard_count.ShardCount.{ShardCount}
use Rattle.run_shards.proofs.Faults.{handed_on}
use Rattle.run_account.specs.FinalState.{HaveLines, IsLeftAmong}
use Rattle.run_account.specs.Merging.{one_history}
use Rattle.run_account.specs.Runs.{IsOutcome}
use Rattle.run_shards.specs.ReportLines.{IsReportOf}
use Rattle.run_shards.specs.PlannedCall.{PlannedCall}
use Rattle.run_shards.specs.Line.{Line}
use Rattle.run_account.proofs.EachShard.{all_places, as_many, few_executes}
use Rattle.run_account.proofs.FinishedRuns.{is_outcome, is_run}
use Rattle.run_account.proofs.account.tell.Goals as goal

through : (script : Script) (plan : Plan) (shards : List ShardValue) (counts : List ShardCount) (planned_calls : List PlannedCall)
    → HasNotTold script plan shards counts planned_calls → Disagreement script plan shards counts planned_calls
through script plan shards counts planned_calls (number, within) = not_told number within.0 within.1

-- ---- what is asked of the shards

pub have_taken_all-requires-clause-few_shards : goal.have_taken_all-requires-clause-few_shards
have_taken_all-requires-clause-few_shards g c =
    let shards = c.args.played.shards.now in
    let plan = c.args.run.plan.now in
    let sized : length shards ≡ plan.shards = c.if-shards-from.false ∙ c.from.ensures ∙ c.shards.ensures in
    let many : length c.args.played.counts.now ≡ length shards =
    as_many c.args.run.checked.now.table plan.calls plan.shards 0 shards c.args.played.counts.now c.requires.counted in
    omega (arith, many, sized, c.requires.plan.few_shards)

pub have_taken_all-requires-clause-all : goal.have_taken_all-requires-clause-all
have_taken_all-requires-clause-all g c =
    let plan = c.args.run.plan.now in
    subst (λ (p : Plan). All (λ (count : ShardCount). length count.places.items ≡ length p.calls) c.args.played.counts.now) (sym c.in-Some.ensures.totals)
    (all_places c.args.run.checked.now.table plan.calls plan.shards 0 c.args.played.shards.now c.args.played.counts.now c.requires.counted)

pub report-requires-after_bounds : goal.report-requires-after_bounds
report-requires-after_bounds g c κs within =
    let script = c.args.run.checked.now.table in
    let plan = c.args.run.plan.now in
    let shards = c.args.played.shards.now in
    let counts = c.args.played.counts.now in
    let finished : AreFinished c.restarts_of-restarts.result shards = c.if-not-have_finished.ensures.yes (search rules) in
    let taken : HaveTakenAll c.in-Some.totals 0 counts = c.if-not-have_taken_all.ensures.yes (search rules) in
    subst (λ (p : Plan). HavePlayed script p shards counts) (sym c.in-Some.ensures.totals)
    (record {
      few = c.requires.few;
      counted = c.requires.counted;
      executes = few_executes c.restarts_of-restarts.result shards finished;
      taken = subst (λ (p : Plan). HaveTakenAll p 0 counts) c.in-Some.ensures.totals taken;
    })

-- ---- the run

pub returns-clause-outcome : goal.returns-clause-outcome
returns-clause-outcome g c =
    let shards = c.args.played.shards.now in
    let plan = c.args.run.plan.now in
    let restarts = c.restarts_of-restarts.result in
    let planned_calls = c.args.planned_calls.now in
    let histories = map (λ v. v.history) shards in
    let sized : length shards ≡ plan.shards = c.if-shards-from.false ∙ c.from.ensures ∙ c.shards.ensures in
    let all : AreFinished restarts shards = c.if-not-have_finished.ensures.yes (search rules) in
    let agreed : Agree c.from-count.result histories (trails_of planned_calls) = c.in_ok-agreed.ensures.agree (search rules) in
    let agree : Agree plan.shards histories (trails_of planned_calls) =
    subst (λ (n : ℕ). Agree n histories (trails_of planned_calls)) (c.from-count.ensures ∙ c.shards-2.ensures) agreed in
    let some : 0 < plan.shards = omega (arith, c.requires.plan.some_shard) in
    is_outcome plan restarts shards (one_history histories restarts) (trails_of planned_calls) some sized all agree refl

pub returns-clause-run : goal.returns-clause-run
returns-clause-run g c =
    let shards = c.args.played.shards.now in
    let plan = c.args.run.plan.now in
    let restarts = c.restarts_of-restarts.result in
    let planned_calls = c.args.planned_calls.now in
    let histories = map (λ v. v.history) shards in
    let sized : length shards ≡ plan.shards = c.if-shards-from.false ∙ c.from.ensures ∙ c.shards.ensures in
    let all : AreFinished restarts shards = c.if-not-have_finished.ensures.yes (search rules) in
    let agreed : Agree c.from-count.result histories (trails_of planned_calls) = c.in_ok-agreed.ensures.agree (search rules) in
    let agree : Agree plan.shards histories (trails_of planned_calls) =
    subst (λ (n : ℕ). Agree n histories (trails_of planned_calls)) (c.from-count.ensures ∙ c.shards-2.ensures) agreed in
    let calls : length (trails_of planned_calls) ≡ length plan.calls = length-map planned_calls trail_of ∙ c.requires.all in
    let some : 0 < plan.shards = omega (arith, c.requires.plan.some_shard) in
    let outcome : IsOutcome (one_history histories restarts) (trails_of planned_calls) =
    is_outcome plan restarts shards (one_history histories restarts) (trails_of planned_calls) some sized all agree refl in
    let table = c.args.run.checked.now.table in
    let lines = c.in_ok-report.report.items in
    let totals : c.in-Some.totals ≡ plan = c.in-Some.ensures.totals in
    let reported : IsReportOf table plan lines = subst (λ (p : Plan). IsReportOf table p lines) totals c.in_ok-report.ensures.report in
    let told : (number : ℕ) → number < length plan.calls → HaveLines (slice_index_or (trails_of planned_calls) number []) lines =
    λ number below. c.in_ok-report.ensures.all number (subst (λ (p : Plan). number < length p.calls) (sym totals) below) in
    let left : (l : Line) → Contains lines l → IsLeftAmong table plan.shards shards (trails_of planned_calls) l =
    λ l among. subst (λ (p : Plan). IsLeftAmong table p.shards shards (trails_of planned_calls) l) totals (c.in_ok-report.ensures.left l among) in
    let taken : HaveTakenAll plan 0 c.args.played.counts.now =
    subst (λ (p : Plan). HaveTakenAll p 0 c.args.played.counts.now) totals (c.if-not-have_taken_all.ensures.yes (search rules)) in
    is_run c.args.run.checked.now.table plan restarts c.requires.few c.merges_are_runs.ensures shards c.args.played.counts.now
    (record { history = one_history histories restarts; trails = trails_of planned_calls; lines = c.in_ok-report.report.items }) c.requires.plan sized c.requires.kept all c.requires.counted taken
    (c.if-not-end_together.ensures.yes (search rules))
    agree refl calls outcome reported left told

-- ---- where they disagree

pub returns-then-shards-from-clause-disagreement : goal.returns-then-shards-from-clause-disagreement
returns-then-shards-from-clause-disagreement g c = other_count (λ same. c.if-shards-from.true (same ∙ sym (c.from.ensures ∙ c.shards.ensures)))

pub returns-then-not-have_finished-clause-disagreement : goal.returns-then-not-have_finished-clause-disagreement
returns-then-not-have_finished-clause-disagreement g c =
    unfinished (subst (λ (n : ℕ). HasUnfinished n c.args.played.shards.now) c.restarts_of-restarts.ensures (c.if-not-have_finished.ensures.no (search rules)))

pub returns-then-not-agreed-clause-disagreement : goal.returns-then-not-agreed-clause-disagreement
returns-then-not-agreed-clause-disagreement g c =
    let histories = map (λ v. v.history) c.args.played.shards.now in
    let other : Differ c.from-count.result histories (trails_of c.args.planned_calls.now) = c.in_ok-agreed.ensures.differ (search rules) in
    differ (subst (λ (n : ℕ). Differ n histories (trails_of c.args.planned_calls.now)) (c.from-count.ensures ∙ c.shards-2.ensures) other)

pub returns-then-not-have_taken_all-clause-disagreement : goal.returns-then-not-have_taken_all-clause-disagreement
returns-then-not-have_taken_all-clause-disagreement g c =
    one_left (subst (λ (p : Plan). HasOneLeft p c.args.played.counts.now) c.in-Some.ensures.totals (c.if-not-have_taken_all.ensures.no (search rules)))

pub returns-then-not-end_together-clause-disagreement : goal.returns-then-not-end_together-clause-disagreement
returns-then-not-end_together-clause-disagreement g c = other_ends (c.if-not-end_together.ensures.no (search rules))

pub returns-in_err-report-clause-disagreement : goal.returns-in_err-report-clause-disagreement
returns-in_err-report-clause-disagreement g c =
    let table = c.args.run.checked.now.table in
    let plan = c.args.run.plan.now in
    let shards = c.args.played.shards.now in
    let counts = c.args.played.counts.now in
    handed_on _ _ c.from_residual-in_err-report.result c.in_err-report.field-0.0 c.from_residual-in_err-report.ensures.1
    (λ not. through table plan shards counts c.args.planned_calls.now
    (subst (λ (p : Plan). HasNotTold table p shards counts c.args.planned_calls.now) c.in-Some.ensures.totals not))
    c.in_err-report.ensures.not_told

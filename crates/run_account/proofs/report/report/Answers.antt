-- What is told of each call is the report of all.
use Rattle.std.proofs.Common.{◌≡◌, ◌∙◌, ◌+◌, ℕ, List, length, map, sym, ap, subst, arith}
use Rattle.std.specs.List.{flat_map, range_with_len}
use Rattle.std.specs.Prelude.{[], Contains, slice_get, slice_index_or}
use Rattle.std.specs.declared.alloc.Global.{Global}
use Rattle.std.specs.declared.vec.Vec.{Vec}
use Rattle.mg_model.specs.Reports.{IsReport}
use Rattle.run_account.specs.Comparing.{trails_of}
use Rattle.run_shards.specs.ReportLines.{line_of}
use Rattle.run_account.specs.CallReport.{IsTold}
use Rattle.run_account.specs.FinalState.{HaveLines}
use Rattle.run_shards.specs.Line.{Line}
use Rattle.run_account.proofs.CallReports.{are_left, are_numbered, are_reported, have_lines, lines_owned, tell_reports, through}
use Rattle.run_account.proofs.report.report.Goals as goal

-- what is told, with the lines as lists
pub returns-clause-report : goal.returns-clause-report
returns-clause-report g c =
    let checked = c.args.source.now.checked.now in
    let script = checked.table in
    let shards = c.args.source.now.shards.now in
    let counts = c.args.source.now.counts.now in
    let plan = c.args.source.now.totals in
    let trails = trails_of c.args.source.now.planned_calls.now in
    let owned = c.in_ok-all.all.items in
    let items : Vec Line Global → List Line = λ v. v.items in
    let all = map items owned in
    let told = through (IsTold script plan shards counts trails) items (range_with_len 0 (length plan.calls)) owned
    c.in_ok-all.ensures.told in
    let reported : IsReport script plan (map (λ (own : List Line). map (line_of script) own) all) =
    are_reported script plan shards counts trails (tell_reports script plan shards counts trails c.logs_tell_reports.ensures checked.entries checked.points
    c.is_checked.ensures c.requires) 0 plan.calls all (λ i. ap (λ (k : ℕ). slice_get plan.calls k) (let same : i ≡ 0 + i = omega arith in same)) told in
    record {
      of_calls = all;
      reported = reported;
      numbered = are_numbered script plan shards counts trails 0 (length plan.calls) all told;
      add_up = c.reports_add_up.ensures script plan (map (λ (own : List Line). map (line_of script) own) all) reported;
      are = c.in_ok-lines.ensures ∙ ap (flat_map items) c.as_slice.ensures.value ∙ lines_owned items owned;
    }

pub returns-clause-left : goal.returns-clause-left
returns-clause-left g c l among =
    let script = c.args.source.now.checked.now.table in
    let plan = c.args.source.now.totals in
    let trails = trails_of c.args.source.now.planned_calls.now in
    let owned = c.in_ok-all.all.items in
    let items : Vec Line Global → List Line = λ v. v.items in
    let told = through (IsTold script plan c.args.source.now.shards.now c.args.source.now.counts.now trails) items (range_with_len 0 (length plan.calls)) owned
    c.in_ok-all.ensures.told in
    are_left script plan c.args.source.now.shards.now c.args.source.now.counts.now trails 0 (length plan.calls) (map items owned) told l
    (subst (λ (lines : List Line). Contains lines l) (c.in_ok-lines.ensures ∙ ap (flat_map items) c.as_slice.ensures.value ∙ lines_owned items owned) among)

pub returns-clause-all : goal.returns-clause-all
returns-clause-all g c number below =
    let script = c.args.source.now.checked.now.table in
    let plan = c.args.source.now.totals in
    let trails = trails_of c.args.source.now.planned_calls.now in
    let owned = c.in_ok-all.all.items in
    let items : Vec Line Global → List Line = λ v. v.items in
    let told = through (IsTold script plan c.args.source.now.shards.now c.args.source.now.counts.now trails) items (range_with_len 0 (length plan.calls)) owned
    c.in_ok-all.ensures.told in
    subst (λ (lines : List Line). HaveLines (slice_index_or trails number []) lines)
    (sym (c.in_ok-lines.ensures ∙ ap (flat_map items) c.as_slice.ensures.value ∙ lines_owned items owned))
    (subst (λ (n : ℕ). HaveLines (slice_index_or trails n []) (flat_map (λ (own : List Line). own) (map items owned)))
    (let same : 0 + number ≡ number = omega arith in same)
    (have_lines script plan c.args.source.now.shards.now c.args.source.now.counts.now trails 0 (length plan.calls) (map items owned) told number below))

-- The lines are those that the shard of the call counts, and as the run leaves them.
use Rattle.std.proofs.Common.{◌≡◌, ◌∙◌, ℕ, List, length, refl, sym, ap, subst, rules}
use Rattle.std.specs.Prelude.{◌%◌, [], Contains, Some, slice_get, slice_index_or}
use Rattle.std.proofs.lemmas.Option.{slice_get_read}
use Rattle.mg_model.specs.Plans.{Plan}
use Rattle.mg_model.specs.Script.{Script}
use Rattle.run_account.specs.CallReport.{AreCountedLines}
use Rattle.run_account.specs.Comparing.{trails_of}
use Rattle.run_account.specs.Disagreements.{IsNotCounted, left_otherwise, not_counted}
use Rattle.run_account.specs.FinalState.{HaveLines, IsLeftAmong}
use Rattle.run_account.specs.OtherLines.{AreLeftOtherwise}
use Rattle.run_shards.specs.Line.{Line}
use Rattle.run_shards.proofs.Faults.{handed_on}
use Rattle.run_account.proofs.report.call_report.Goals as goal

pub returns-clause-told : goal.returns-clause-told
returns-clause-told c =
    let source = c.args.source.now in
    let script = source.checked.now.table in
    let plan = source.totals in
    let shards = source.shards.now in
    let counts = source.counts.now in
    let trails = trails_of source.planned_calls.now in
    let shard_at = c.in-Some-get.ensures.lookup in
    let count_at = c.in-Some-get-2.ensures.lookup in
    let shard = c.in-Some-get.shard.now in
    let counted = c.in-Some-get-2.counted.now in
    let lines = c.in_ok-lines.lines.items in
    let number : c.in-Ok.number ≡ c.args.place = c.in-Ok.ensures.1 in
    let count : c.from-count.result ≡ plan.shards = c.from-count.ensures ∙ c.shards.ensures ∙ ap (λ (p : Plan). p.shards) c.plan.ensures in
    let own : c.in-Some.own ≡ c.args.place % plan.shards =
    c.in-Some.ensures.1 ∙ ap (λ (n : ℕ). n % c.from-count.result) number ∙ ap (λ (n : ℕ). c.args.place % n) count in
    record {
      shard = shard;
      own_shard = subst (λ (n : ℕ). slice_get shards n ≡ Some shard) own
          (slice_get_read shards (length shards) c.in-Some.own shard refl shard_at.3.0 (shard_at.3.1 shard));
      count = counted;
      own_count = subst (λ (n : ℕ). slice_get counts n ≡ Some counted) own
          (slice_get_read counts (length counts) c.in-Some.own counted refl count_at.3.0 (count_at.3.1 counted));
      counted = subst (λ (n : ℕ). AreCountedLines script shard counted n lines) number
          (subst (λ (s : Script). AreCountedLines s shard counted c.in-Ok.number lines) c.script-script.ensures.table c.in_ok-lines.ensures.counted);
      left = λ l among.
          subst (λ (s : Script). IsLeftAmong s plan.shards shards trails l) c.script-script.ensures.table
          (subst (λ (n : ℕ). IsLeftAmong c.script-script.result.now n shards trails l) count
          (c.if-not-are_left.ensures.left (search rules) l (subst (λ (ls : List Line). Contains ls l) (sym c.as_slice.ensures.value) among)));
      all = subst (λ (n : ℕ). HaveLines (slice_index_or trails n []) lines) number
          (subst (λ (ls : List Line). HaveLines (slice_index_or trails c.in-Ok.number []) ls) c.as_slice.ensures.value (c.if-not-are_left.ensures.all (search rules)));
    }

-- ---- where nothing is told of it

pub returns-in_err-lines-clause-not_told : goal.returns-in_err-lines-clause-not_told
returns-in_err-lines-clause-not_told c =
    let source = c.args.source.now in
    let plan = source.totals in
    let shards = source.shards.now in
    let counts = source.counts.now in
    let shard_at = c.in-Some-get.ensures.lookup in
    let count_at = c.in-Some-get-2.ensures.lookup in
    let shard = c.in-Some-get.shard.now in
    let counted = c.in-Some-get-2.counted.now in
    let number : c.in-Ok.number ≡ c.args.place = c.in-Ok.ensures.1 in
    let count : c.from-count.result ≡ plan.shards = c.from-count.ensures ∙ c.shards.ensures ∙ ap (λ (p : Plan). p.shards) c.plan.ensures in
    let own : c.in-Some.own ≡ c.args.place % plan.shards =
    c.in-Some.ensures.1 ∙ ap (λ (n : ℕ). n % c.from-count.result) number ∙ ap (λ (n : ℕ). c.args.place % n) count in
    handed_on _ _ c.from_residual.result c.in_err-lines.field-0.0 c.from_residual.ensures.1
    (λ not. not_counted shard counted
    (subst (λ (n : ℕ). slice_get shards n ≡ Some shard) own
    (slice_get_read shards (length shards) c.in-Some.own shard refl shard_at.3.0 (shard_at.3.1 shard)))
    (subst (λ (n : ℕ). slice_get counts n ≡ Some counted) own
    (slice_get_read counts (length counts) c.in-Some.own counted refl count_at.3.0 (count_at.3.1 counted)))
    (subst (λ (n : ℕ). IsNotCounted shard counted n) number not))
    c.in_err-lines.ensures.not_counted

pub returns-then-not-are_left-clause-not_told : goal.returns-then-not-are_left-clause-not_told
returns-then-not-are_left-clause-not_told c =
    let source = c.args.source.now in
    let script = source.checked.now.table in
    let plan = source.totals in
    let shards = source.shards.now in
    let counts = source.counts.now in
    let trails = trails_of source.planned_calls.now in
    let shard_at = c.in-Some-get.ensures.lookup in
    let count_at = c.in-Some-get-2.ensures.lookup in
    let shard = c.in-Some-get.shard.now in
    let counted = c.in-Some-get-2.counted.now in
    let lines = c.in_ok-lines.lines.items in
    let number : c.in-Ok.number ≡ c.args.place = c.in-Ok.ensures.1 in
    let count : c.from-count.result ≡ plan.shards = c.from-count.ensures ∙ c.shards.ensures ∙ ap (λ (p : Plan). p.shards) c.plan.ensures in
    let own : c.in-Some.own ≡ c.args.place % plan.shards =
    c.in-Some.ensures.1 ∙ ap (λ (n : ℕ). n % c.from-count.result) number ∙ ap (λ (n : ℕ). c.args.place % n) count in
    let other : AreLeftOtherwise c.script-script.result.now c.from-count.result shards trails c.in-Ok.number c.as_slice.result.now =
    c.if-not-are_left.ensures.no (search rules) in
    left_otherwise shard counted
    (subst (λ (n : ℕ). slice_get shards n ≡ Some shard) own
    (slice_get_read shards (length shards) c.in-Some.own shard refl shard_at.3.0 (shard_at.3.1 shard)))
    (subst (λ (n : ℕ). slice_get counts n ≡ Some counted) own
    (slice_get_read counts (length counts) c.in-Some.own counted refl count_at.3.0 (count_at.3.1 counted)))
    lines
    (subst (λ (n : ℕ). AreCountedLines script shard counted n lines) number
    (subst (λ (s : Script). AreCountedLines s shard counted c.in-Ok.number lines) c.script-script.ensures.table c.in_ok-lines.ensures.counted))
    (subst (λ (n : ℕ). AreLeftOtherwise script plan.shards shards trails n lines) number
    (subst (λ (ls : List Line). AreLeftOtherwise script plan.shards shards trails c.in-Ok.number ls) c.as_slice.ensures.value
    (subst (λ (s : Script). AreLeftOtherwise s plan.shards shards trails c.in-Ok.number c.as_slice.result.now) c.script-script.ensures.table
    (subst (λ (n : ℕ). AreLeftOtherwise c.script-script.result.now n shards trails c.in-Ok.number c.as_slice.result.now) count other))))

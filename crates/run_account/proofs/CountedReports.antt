-- What a shard counts of a call is the call's report, where the steps that were taken in the shard are all of the plan's.
use Rattle.std.proofs.Common.{◌≡◌, ◌∙◌, ◌+◌, ◌≤◌, ◌++◌, ℕ, zero, suc, List, [], ◌∷◌, Some, length, map, refl, sym, ap, ap₂, subst, arith}
use Rattle.std.specs.Prelude.{◌%◌, max, slice_get}
use Rattle.std.proofs.Math.Nat.{le-max_right, max-eq_right}
use Rattle.std.proofs.lemmas.List.{length-map}
use Rattle.std.proofs.lemmas.Option.{same_Some}
use Rattle.mg_merge.specs.Identifiers.{executes_in, most_executes}
use Rattle.mg_model.specs.declared.plans.PlanStep.{PlanStep}
use Rattle.mg_model.specs.Agent.{Agent}
use Rattle.mg_model.specs.Entries.{Entry}
use Rattle.mg_model.specs.Numbers.{plan_calls}
use Rattle.mg_model.specs.Plans.{Plan, PlanCall, epochs_of, number_begun, opened_as, restarts_among, restarts_asked, restarts_of_others, steps_in}
use Rattle.mg_model.specs.Reports.{IsReported, ReportLine}
use Rattle.mg_model.specs.Script.{Script}
use Rattle.mg_model.specs.Tables.{state_of}
use Rattle.mg_model.specs.World.{Opened, World}
use Rattle.mg_reports.specs.Logs.{Counted, LogEntry, LogRuns, LogsTellReports, counted, line_counted, none_counted, restarts_logged, steps_logged}
use Rattle.composition.specs.Verdict.{IsChecked}
use Rattle.run_shards.specs.Shards.{IsWorldOf, ShardValue}
use Rattle.run_shards.specs.Standings.{StandsAs}
use Rattle.run_shards.specs.Counts.{counts_of}
use Rattle.run_shards.specs.Parts.{opened_in}
use Rattle.run_shards.specs.ReportLines.{gone_line, line_of, phase_standing, phase_text}
use Rattle.run_shards.specs.CallCount.{CallCount}
use Rattle.run_shards.specs.Line.{Line}
use Rattle.run_shards.proofs.LogLemmas.{own_restarts}
use Rattle.run_shards.proofs.StepLemmas.{asked_within, epochs_within, no_epochs, opened_among, restarts_in_steps, steps_all}
use Rattle.run_shards.specs.Counting.{IsCounted, IsLogged, all_restarts_logged, epochs_logged, place_of, steps_so_far}
use Rattle.run_shards.specs.declared.shard_count.ShardCount.{ShardCount}
use Rattle.run_account.specs.CallReport.{AreCountedLines, number_standing}
use Rattle.run_account.specs.TakenAll.{HasTakenAll}
use Rattle.run_account.proofs.ApartParts.{part_below}
use Rattle.run_account.proofs.StandingWords.{standing_word}

-- ---- the plan's steps

-- at the end of the last epoch a call's steps are those in all epochs
in_all : (epoch epochs : ℕ) (steps : List (List PlanStep)) → epoch + 1 ≡ max 1 epochs → (epochs ≡ 0 → steps ≡ []) → steps_in (suc epoch) steps ≡ steps_in epochs steps
in_all epoch zero steps last none =
    let first : suc epoch ≡ 1 = omega (arith, last) in
    ap (λ (n : ℕ). steps_in n steps) first ∙ ap (λ (all : List (List PlanStep)). steps_in 1 all) (none refl)
in_all epoch (suc more) steps last none =
    let some : 1 ≤ suc more = omega arith in
    let most : max 1 (suc more) ≡ suc more = max-eq_right some in
    let all : suc epoch ≡ suc more = omega (arith, last, most) in
    ap (λ (n : ℕ). steps_in n steps) all

module _ (plan : Plan) (number first : ℕ) (call : PlanCall) (c : ShardCount) (is : slice_get plan.calls first ≡ Some call) (own : first % plan.shards ≡ number)
    (taken : HasTakenAll plan number c) where
  steps_ended : steps_so_far c.epoch (place_of c first) call.epochs ≡ steps_in (suc c.epoch) call.epochs
  steps_ended = steps_all plan.calls first c.epoch (place_of c first) call is (taken.ended first own)

  all_steps : steps_so_far c.epoch (place_of c first) call.epochs ≡ steps_in (epochs_of plan.calls) call.epochs
  all_steps = steps_ended ∙ in_all c.epoch (epochs_of plan.calls) call.epochs taken.epochs (no_epochs plan.calls first call is)

  few_epochs : length call.epochs ≤ suc c.epoch
  few_epochs =
      let within = epochs_within plan.calls first call is in
      let most : epochs_of plan.calls ≤ max 1 (epochs_of plan.calls) = le-max_right 1 (epochs_of plan.calls) in
      omega (arith, within, most, taken.epochs)

  -- what isn't the ends of epochs, and not its own, was asked for by others
  others_asked : (script : Script) (log : List LogEntry) (start end : World) → LogRuns script log start end → epochs_logged log ≡ c.epoch
      → all_restarts_logged log ≡ c.restarts → steps_logged first log ≡ steps_so_far c.epoch (place_of c first) call.epochs
      → restarts_logged first log ≡ restarts_of_others plan call
  others_asked script log start end runs epochs restarts steps =
      let all = own_restarts script first log start end runs in
      let among : restarts_among (steps_logged first log) ≡ c.epoch + restarts_asked call.epochs =
      ap restarts_among (steps ∙ steps_ended) ∙ restarts_in_steps c.epoch call.epochs few_epochs in
      let within = asked_within plan.calls first call is in
      omega (arith, all, among, epochs, restarts, taken.restarts, within)

-- ---- the line of the call that stands

abbrev line : Script → (state : ℕ) → (phase : List ℕ) → CallCount → ReportLine
line script state phase own = record { state = (state_of script state).name; phase = phase; events = own.events; idle = own.idle }

last_line : (script : Script) (v : ShardValue) (c : ShardCount) (first : ℕ) (lines : List Line) (is : AreCountedLines script v c first lines) (w : World) (a : Agent)
    → IsWorldOf v w → w.agent (number_standing first is.own) ≡ Some a
    → line script is.standing.state (phase_text (phase_standing script is.standing v.gateway.association)) is.own ≡ line_counted script w a (counts_of script is.own)
last_line script v c first lines is w a shown there =
    ap₂ (λ (state : ℕ) (phase : List ℕ). line script state phase is.own) stands.state
    (standing_word script v w (number_standing first is.own) v.gateway.association is.standing shown stands refl)
    ∙ ap (λ (b : Agent). line_counted script w b (counts_of script is.own)) (same_Some stands.agent a (sym stands.open_call ∙ there))
  where
    stands : StandsAs w (number_standing first is.own) is.standing
    stands = is.stands w shown

-- ---- the report

-- a call that was counted stands in a world, and its lines are reported
abbrev TellsReport : Script → Opened → List LogEntry → World → Counted → Type 0
TellsReport script one log end k =
    (a : Agent) × ((end.agent (number_begun one.call (length k.retired)) ≡ Some a)
    × IsReported script one (steps_logged one.call log) (restarts_logged one.call log) (k.retired ++ line_counted script end a k ∷ []))

module _ (law : LogsTellReports) (script : Script) (entries : List Entry) (points : ℕ) (checked : IsChecked script entries points) (plan : Plan)
    (few : length plan.calls ≤ plan_calls) (number : ℕ) (v : ShardValue) (c : ShardCount) (counting : IsCounted script plan.calls plan.shards number v c)
    (executes : executes_in v.history ≤ most_executes) (taken : HasTakenAll plan number c) where
  logged : IsLogged script plan.calls plan.shards number v c
  logged = counting.logged taken.whole

  runs : LogRuns script logged.log logged.start logged.end
  runs = logged.runs executes

  module _ (first : ℕ) (call : PlanCall) (is : slice_get plan.calls first ≡ Some call) (own : first % plan.shards ≡ number) where
    abbrev one : Opened
    one = opened_as first call

    tells : TellsReport script one logged.log logged.end (counted script first logged.log none_counted)
    tells =
        law script entries checked.accepted checked.listed checked.none_broken checked.few_commands (opened_in plan.shards number 0 plan.calls)
        (part_below plan plan.shards number few) logged.start logged.opens logged.log logged.end runs one
        (opened_among plan.calls plan.shards number first call is own)

    steps : steps_logged first logged.log ≡ steps_in (epochs_of plan.calls) call.epochs
    steps = logged.steps first call is own ∙ all_steps plan number first call c is own taken

    restarts : restarts_logged first logged.log ≡ restarts_of_others plan call
    restarts =
        others_asked plan number first call c is own taken script logged.log logged.start logged.end runs logged.epochs logged.restarts
        (logged.steps first call is own)

    pub reported : (lines : List Line) → AreCountedLines script v c first lines
        → IsReported script one (steps_in (epochs_of plan.calls) call.epochs) (restarts_of_others plan call) (map (line_of script) lines)
    reported lines are =
        subst (λ (s : List PlanStep). IsReported script one s (restarts_of_others plan call) (map (line_of script) lines)) steps
        (subst (λ (n : ℕ). IsReported script one (steps_logged first logged.log) n (map (line_of script) lines)) restarts
        (subst (λ (ls : List ReportLine). IsReported script one (steps_logged first logged.log) (restarts_logged first logged.log) ls) (sym as_counted) told.1.1))
      where
        gone : List ReportLine
        gone = map (gone_line script) are.own.gone.items

        told : TellsReport script one logged.log logged.end (counts_of script are.own)
        told = subst (TellsReport script one logged.log logged.end) (logged.counts first are.own are.is_own) tells

        stands : logged.end.agent (number_standing first are.own) ≡ Some told.0
        stands =
            ap (λ (n : ℕ). logged.end.agent (number_begun first n)) (sym (length-map are.own.gone.items (gone_line script))) ∙ told.1.0

        as_counted : map (line_of script) lines ≡ gone ++ line_counted script logged.end told.0 (counts_of script are.own) ∷ []
        as_counted = are.told ∙ ap (λ (last : ReportLine). gone ++ last ∷ []) (last_line script v c first lines are logged.end told.0 logged.shown stands)
